-- The exchanges of a connection: the bytes of a request, and what it comes to.
use Rattle.std.specs.Prelude.{◌≡◌, ℕ, ◌+◌, ◌≤◌, Bool, true, false, ◌||◌, ◌==◌, List, [], ◌∷◌, ◌++◌, All, Option, None, Some}
use Rattle.std.specs.Option.{IfSome, option_to_list}
use Rattle.std.specs.List.{flat_map}
use Rattle.ofx_types.specs.FileForm.{SpellsFile}
use Rattle.ofx_types.specs.declared.number.UserId.{UserId}
use Rattle.ofx_types.specs.declared.number.Moment.{Moment}
use Rattle.ofx_types.specs.declared.request.RequestFile.{RequestFile}
use Rattle.http_front.specs.declared.head.Head.{Head}
use Rattle.bank_model.specs.declared.setup.Setup.{Setup}
use Rattle.bank_model.specs.declared.event.Event.TheVariants.{File}
use Rattle.bank_model.specs.declared.log.LogItem.{LogItem}
use Rattle.bank_model.specs.declared.log.LogItem.TheVariants.{Effect, Answer, Adopted, Fault}
use Rattle.bank_model.specs.Events.{IsSameEvent}
use Rattle.bank_model.specs.Log.{ending}
use Rattle.bank_model.specs.Polls.{is_poll}
use Rattle.bank_signon.specs.Signon.{IsSignedOn, IsDenied, IsRefused}
use Rattle.http_link.specs.Requests.{IsRefusedByHead, IsWhole}
use Rattle.token_board.specs.declared.view.Load.{Load}
use Rattle.bank_callers.specs.Polled.{AreLoadsOf}
use Rattle.bank_callers.specs.Callers.{IsOfFile}
use Rattle.http_link.specs.declared.refusal.Refusal.{Refusal}

-- What a request comes to.
pub data Outcome : Type 0 where
  -- its head is refused
  refused : Refusal → Outcome
  -- its body spells no file, and the fault is at this offset
  misspelled : ℕ → Outcome
  -- its body spells a file whose signon fails, at this moment
  denied : RequestFile → Moment → Outcome
  -- its body is a poll of this user, at this moment, and its asks loaded these tokens
  polled : UserId → RequestFile → Moment → List (Option Load) → Outcome
  -- its body is another file of this user, at this moment, and the ending of this number answers it
  ended : UserId → RequestFile → Moment → ℕ → Outcome
  -- memory was refused, after this moment if the clock was read
  no_memory : Option Moment → Outcome

-- An exchange: the bytes of a request, what it comes to, and whether the connection ends after its reply.
pub record Exchange : Type 0 where
  pub request : List ℕ
  pub outcome : Outcome
  pub closes : Bool

-- ---- what a whole request comes to

-- An ending answers a user's file at a moment: it is the answer to just that, or a fault whose event is that if it has one.
abbrev pub EndsFile : UserId → RequestFile → Moment → Option LogItem → Type 0
EndsFile user file at None = ⊥
EndsFile user file at (Some (Effect entry)) = ⊥
EndsFile user file at (Some (Answer event moment reply)) = IsSameEvent event (File user file) × (moment ≡ at)
EndsFile user file at (Some (Adopted fault event moment)) = ⊥
EndsFile user file at (Some (Fault count pending)) = IsOfFile user file at pending

-- What the body of a whole request comes to, with the endings of this log: it is refused where it spells no file; denied where its
-- signon fails; a poll of the user who signs on loads tokens; and any other file of that user is ended. Memory may be refused in
-- the offset of any of these.
abbrev pub ComesTo : Setup → List LogItem → List ℕ → Outcome → Type 0
ComesTo setup log body (refused refusal) = ⊥
ComesTo setup log body (misspelled offset) = IsRefused body offset
ComesTo setup log body (denied file at) = IsDenied setup body file
ComesTo setup log body (polled user file at loads) =
    IsSignedOn setup body file user × (is_poll file ≡ true) × AreLoadsOf setup user file loads
ComesTo setup log body (ended user file at number) =
    IsSignedOn setup body file user × (is_poll file ≡ false) × (1 ≤ number) × EndsFile user file at (ending log number)
ComesTo setup log body (no_memory at) = IfSome at (λ moment. (file : RequestFile) × SpellsFile body file)

-- ---- exchanges

abbrev pub is_no_memory : Outcome → Bool
is_no_memory (refused refusal) = false
is_no_memory (misspelled offset) = false
is_no_memory (denied file at) = false
is_no_memory (polled user file at loads) = false
is_no_memory (ended user file at number) = false
is_no_memory (no_memory at) = true

-- The connection ends after a reply to a whole request where the request is HTTP/1.0 or says `close`, where memory was refused,
-- and after the hundredth reply.
abbrev pub closes_after : Head → ℕ → Outcome → Bool
closes_after head number outcome = head.last || is_no_memory outcome || number == 100

-- a whole request, and what its body comes to
pub record IsAnswered (setup : Setup) (log : List LogItem) (number : ℕ) (x : Exchange) : Type 0 where
  pub head : Head
  pub body : List ℕ
  pub whole : IsWhole x.request head body
  pub comes_to : ComesTo setup log body x.outcome
  pub closes_is : x.closes ≡ closes_after head number x.outcome

-- The exchange of this number, over a log. A refused head ends the connection.
abbrev pub IsOutcome : Setup → List LogItem → ℕ → Exchange → Outcome → Type 0
IsOutcome setup log number x (refused refusal) = IsRefusedByHead x.request refusal × (x.closes ≡ true)
IsOutcome setup log number x outcome = IsAnswered setup log number x

abbrev pub IsExchange : Setup → List LogItem → ℕ → Exchange → Type 0
IsExchange setup log number x = IsOutcome setup log number x x.outcome

-- Exchanges one after another, numbered from here on.
abbrev pub AreExchanges : Setup → List LogItem → ℕ → List Exchange → Type 0
AreExchanges setup log number [] = Unit {0}
AreExchanges setup log number (x ∷ xs) = IsExchange setup log number x × AreExchanges setup log (number + 1) xs

-- ---- parts of exchanges

-- the bytes of their requests, one after another
abbrev pub requests_in : List Exchange → List ℕ
requests_in xs = flat_map (λ (x : Exchange). x.request) xs

abbrev pub moments_of : Outcome → List Moment
moments_of (refused refusal) = []
moments_of (misspelled offset) = []
moments_of (denied file at) = at ∷ []
moments_of (polled user file at loads) = at ∷ []
moments_of (ended user file at number) = at ∷ []
moments_of (no_memory at) = option_to_list at

-- their moments, in order
abbrev pub moments_in : List Exchange → List Moment
moments_in xs = flat_map (λ (x : Exchange). moments_of x.outcome) xs

abbrev pub endings_of : Outcome → List ℕ
endings_of (refused refusal) = []
endings_of (misspelled offset) = []
endings_of (denied file at) = []
endings_of (polled user file at loads) = []
endings_of (ended user file at number) = number ∷ []
endings_of (no_memory at) = []

-- the numbers of the endings that answer them, in order
abbrev pub endings_in : List Exchange → List ℕ
endings_in xs = flat_map (λ (x : Exchange). endings_of x.outcome) xs

-- The connection goes on after each of them.
abbrev pub GoOn : List Exchange → Type 0
GoOn xs = All (λ (x : Exchange). x.closes ≡ false) xs
