use Rattle.std.proofs.Common.{◌≡◌, ◌++◌}
use Rattle.bank_history.proofs.AmongLemmas.{lent}
use Rattle.bank_history.proofs.laid.put_lent.Given as goal

abbrev pub invariant-loop-entry : goal.invariant-loop-entry
invariant-loop-entry l = lent l.since.items ++ l.entry-iterator ≡ lent l.fn.since.items ++ l.initial.entry-iterator
