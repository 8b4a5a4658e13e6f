use Rattle.std.proofs.Common.{◌≡◌, ◌++◌, map, take}
use Rattle.bank_model.specs.Sync.{reply_of_entry}
use Rattle.bank_queries.proofs.history.report_entries.Given as goal

abbrev pub invariant-loop-entry : goal.invariant-loop-entry
invariant-loop-entry l = l.reported.items ≡ l.fn.reported.items ++ map (reply_of_entry l.family) (map (λ entry. entry.now) (take l.entry-index l.entries))
