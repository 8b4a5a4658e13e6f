-- What an office has seen of its bank's log at each exchange of a connection, and what the tokens of polls are worth.
use Rattle.std.specs.Prelude.{◌≡◌, ◌≢◌, ℕ, List, [], ◌∷◌, ◌++◌, length, All, Contains}
use Rattle.std.specs.List.{flat_map}
use Rattle.bank_model.specs.declared.entry.Entry.{Entry}
use Rattle.bank_model.specs.declared.event.State.{State}
use Rattle.bank_model.specs.declared.log.LogItem.{LogItem}
use Rattle.bank_model.specs.Log.{endings, entries_in}
use Rattle.token_board.specs.declared.view.Load.{Load}
use Rattle.bank_callers.specs.Polled.{loads_made}
use Rattle.bank_callers.specs.Callers.{CallerView, entries_seen, IsFresh, HoldsIn}
use Rattle.bank_connection.specs.Exchanges.{Outcome, refused, misspelled, denied, polled, ended, no_memory, Exchange, endings_in}

-- A list begins with another one.
abbrev pub Begins : {A : Type 0} → List A → List A → Type 0
Begins {A} prefix all = (rest : List A) × (all ≡ prefix ++ rest)

-- What was seen before an exchange and after it. It never shrinks. Each token of a poll is no older than the newest one of its
-- object in what was seen then, and a file's ending is the last of those that were seen after it.
abbrev pub SeesAt : State → List LogItem → Outcome → List LogItem → Type 0
SeesAt opening seen (polled user file at loads) next = Begins seen next × All (IsFresh (entries_in opening seen)) (loads_made loads)
SeesAt opening seen (ended user file at number) next = Begins seen next × (number ≡ length (endings next))
SeesAt opening seen outcome next = Begins seen next

-- the same of exchanges one after another
abbrev pub SeesIn : State → List LogItem → List Exchange → List LogItem → Type 0
SeesIn opening seen [] next = next ≡ seen
SeesIn opening seen (x ∷ xs) next = (mid : List LogItem) × SeesAt opening seen x.outcome mid × SeesIn opening mid xs next

-- ---- tokens

abbrev pub loads_of : Outcome → List Load
loads_of (refused refusal) = []
loads_of (misspelled offset) = []
loads_of (denied file at) = []
loads_of (polled user file at loads) = loads_made loads
loads_of (ended user file at number) = []
loads_of (no_memory at) = []

-- the tokens that polls were answered with, and their objects
abbrev pub loads_in : List Exchange → List Load
loads_in xs = flat_map (λ (x : Exchange). loads_of x.outcome) xs

-- some file among these exchanges was ended
abbrev pub HasEnding : List Exchange → Type 0
HasEnding xs = endings_in xs ≢ []

-- Where a file's ending follows, each token of at least 1 that a poll was answered with is the number of an entry
-- of its object.
abbrev pub TokensHold : List Entry → List Exchange → Type 0
TokensHold entries [] = Unit {0}
TokensHold entries (x ∷ xs) = (HasEnding xs → All (HoldsIn entries) (loads_of x.outcome)) × TokensHold entries xs

-- What an office knows after a connection: it has seen this log, which begins with what it had seen; the endings of its own that
-- are new are just those of the exchanges, in order; the tokens of polls are among those loaded, none was too old, and none
-- before a file's ending was made up.
pub record HasWatched (log : List LogItem) (xs : List Exchange) (before after : CallerView) : Type 0 where
  pub opening : after.opening ≡ before.opening
  pub log_is : log ≡ after.seen
  pub sees : SeesIn before.opening before.seen xs after.seen
  pub mine : after.mine ≡ before.mine ++ endings_in xs
  pub polled : All (Contains after.polled) (loads_in xs)
  pub hold : TokensHold (entries_seen after) xs
