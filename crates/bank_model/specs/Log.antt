-- The log of a bank: what its callers were answered and what the keeper of its records refused, one item after another.
use Rattle.std.specs.Prelude.{ℕ, ◌-◌, Bool, true, false, List, [], ◌∷◌, ◌++◌, filter, slice_get, Option}
use Rattle.std.specs.List.{flat_map}
use Rattle.bank_model.specs.declared.entry.Entry.{Entry}
use Rattle.bank_model.specs.declared.event.State.{State}
use Rattle.bank_model.specs.declared.log.LogItem.{LogItem}
use Rattle.bank_model.specs.declared.log.LogItem.TheVariants.{Effect, Answer, Adopted, Fault}

-- An answer, an adopted event and a fault each end what a caller asked. An effect is one entry of what comes to its end next.
abbrev pub is_ending : LogItem → Bool
is_ending (Effect entry) = false
is_ending (Answer event at reply) = true
is_ending (Adopted fault event at) = true
is_ending (Fault count pending) = true

abbrev pub endings : List LogItem → List LogItem
endings log = filter is_ending log

-- The endings are numbered from 1 in the order of the log. Nobody asks for 0, which would be the first one.
abbrev pub ending : List LogItem → ℕ → Option LogItem
ending log number = slice_get (endings log) (number - 1)

-- The entries of a log are those of its effects, in order.
abbrev pub entry_of : LogItem → List Entry
entry_of (Effect entry) = entry ∷ []
entry_of (Answer event at reply) = []
entry_of (Adopted fault event at) = []
entry_of (Fault count pending) = []

-- The bank's entries are those of the state that it opened in, and those of its log.
abbrev pub entries_in : State → List LogItem → List Entry
entries_in S log = S.entries ++ flat_map entry_of log
