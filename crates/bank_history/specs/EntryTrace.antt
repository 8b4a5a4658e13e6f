-- The entries that came to a bank.
use Rattle.std.specs.Prelude.{List, [], ◌∷◌, ◌++◌}
use Rattle.bank_model.specs.declared.entry.Entry.{Entry}
use Rattle.bank_history.specs.declared.entry_trace.EntryTrace.{EntryTrace, Start, After'}

-- the entries in order, the first one first
abbrev pub entries_of : EntryTrace → List Entry
entries_of Start = []
entries_of (After' shape before entry) = entries_of before ++ entry.value ∷ []
