-- What the body of a request is answered, and what that does to an office.
use Rattle.std.specs.Prelude.{◌≡◌, ◌≢◌, ℕ, Bool, true, false, List, [], ◌++◌, codes, All, Contains, ⊤, Option, None, Some, Result, Ok, Err}
use Rattle.std.specs.Option.{IfSome}
use Rattle.std.specs.Io.KnownBytes.{Keeps, Appends}
use Rattle.ofx_ports.specs.Known.{Grows}
use Rattle.ofx_types.specs.declared.number.Moment.{Moment}
use Rattle.bank_model.specs.declared.setup.Setup.{Setup}
use Rattle.bank_model.specs.declared.log.LogItem.{LogItem}
use Rattle.token_board.specs.declared.view.Load.{Load}
use Rattle.bank_callers.specs.Callers.{CallerView, Knows, HoldsIn, entries_seen}
use Rattle.bank_connection.specs.Exchanges.{Outcome, Exchange, ComesTo, IsExchange, is_no_memory, moments_of, endings_of}
use Rattle.http_link.specs.Replies.{line, reply_of}
use Rattle.bank_connection.specs.ReplyText.{outcome_reply}
use Rattle.bank_connection.specs.Watched.{SeesAt, loads_of}
use Rattle.bank_connection.specs.declared.answer.Answer.{Answer}
use Rattle.bank_connection.specs.declared.answer.Answer.TheVariants.{File, Misspelled, KeeperFailed, NoMemory}

-- the code and the body of each answer
abbrev pub answer_code : Answer → ℕ
answer_code (File reply) = 200
answer_code (Misspelled text) = 400
answer_code KeeperFailed = 503
answer_code NoMemory = 500

abbrev pub answer_body : Answer → List ℕ
answer_body (File reply) = reply.items
answer_body (Misspelled text) = text.items
answer_body KeeperFailed = line (codes "keeper failed")
answer_body NoMemory = line (codes "no memory")

abbrev pub reports_no_memory : Answer → Bool
reports_no_memory (File reply) = false
reports_no_memory (Misspelled text) = false
reports_no_memory KeeperFailed = false
reports_no_memory NoMemory = true

-- An office has seen this log, where it says what it has seen.
abbrev pub HasSeen : List LogItem → Option CallerView → Type 0
HasSeen log office = IfSome office (λ view. view.seen ≡ log)

-- What an exchange does to what an office knows: it has seen these items more, and the endings that are its own and the tokens
-- that it loaded are those of the outcome.
pub record Watches (grown : List LogItem) (outcome : Outcome) (before after : CallerView) : Type 0 where
  pub opening : after.opening ≡ before.opening
  pub seen : after.seen ≡ before.seen ++ grown
  pub sees : SeesAt before.opening before.seen outcome after.seen
  pub mine : after.mine ≡ before.mine ++ endings_of outcome
  pub loads : List Load
  pub polled : after.polled ≡ before.polled ++ loads
  pub among : All (Contains after.polled) (loads_of outcome)
  pub hold : endings_of outcome ≢ [] → All (HoldsIn (entries_seen after)) before.polled

-- An answer to the body of a request, after this log.
pub record IsAnswerTo (setup : Setup) (log : List LogItem) (body : List ℕ) (shown shown' : Option (List Moment)) (old new : Option CallerView) (answer : Answer) : Type 0 where
  pub grown : List LogItem
  pub outcome : Outcome
  pub comes_to : ComesTo setup (log ++ grown) body outcome
  pub text : (closes : Bool) → outcome_reply (log ++ grown) outcome closes ≡ reply_of (answer_code answer) (answer_body answer) closes
  pub no_memory : is_no_memory outcome ≡ reports_no_memory answer
  pub moments : Grows shown shown' (moments_of outcome)
  pub watches : Knows old new (Watches grown outcome)

abbrev pub Answers : Setup → List ℕ → Option (List Moment) → Option (List Moment) → Option CallerView → Option CallerView → Answer → Type 0
Answers setup body shown shown' old new answer =
    (log : List LogItem) → HasSeen log old → IsAnswerTo setup log body shown shown' old new answer
