use Rattle.std.proofs.Common.{◌≡◌, ◌++◌, take}
use Rattle.bank_history.specs.Made.{made_of}
use Rattle.bank_history.proofs.made.put_made.Given as goal

abbrev pub invariant-loop-entry : goal.invariant-loop-entry
invariant-loop-entry l = l.made.items ≡ l.fn.made.items ++ made_of l.object (take l.entry-index l.entries)
