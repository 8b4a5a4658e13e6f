use Rattle.std.proofs.Common.{◌≡◌, ◌++◌, take}
use Rattle.bank_history.proofs.AmongLemmas.{above, lent}
use Rattle.bank_history.proofs.among.put_above.Given as goal

abbrev pub invariant-loop-entry : goal.invariant-loop-entry
invariant-loop-entry l = lent l.since.items ≡ lent l.fn.since.items ++ above l.token l.object (take l.entry-index l.entries)
