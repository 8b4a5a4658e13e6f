use Rattle.std.proofs.Common.{◌≡◌, ◌++◌, take}
use Rattle.bank_queries.proofs.HistoryLemmas.{reported_above}
use Rattle.bank_queries.proofs.history.report_above.Given as goal

abbrev pub invariant-loop-entry : goal.invariant-loop-entry
invariant-loop-entry l = l.reported.items ≡ l.fn.reported.items ++ reported_above l.family l.token l.object (take l.entry-index l.entries)
