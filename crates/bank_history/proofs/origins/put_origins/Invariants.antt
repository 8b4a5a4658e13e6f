use Rattle.std.proofs.Common.{◌≡◌, ◌++◌, length}
use Rattle.bank_history.specs.Made.{made_from}
use Rattle.bank_history.proofs.origins.put_origins.Given as goal

abbrev pub invariant-loop-left : goal.invariant-loop-left
invariant-loop-left l = l.made.items ++ made_from l.left l.rest ≡ l.fn.made.items ++ made_from l.fn.origins l.fn.mails

abbrev pub decreases-loop-left : goal.decreases-loop-left
decreases-loop-left l = length l.left
