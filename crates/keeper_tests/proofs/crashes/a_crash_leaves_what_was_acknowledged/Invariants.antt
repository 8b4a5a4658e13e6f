-- Nothing is to be settled, and no more is acknowledged than there were moments.
use Rattle.std.proofs.Common.{◌≡◌, ◌≤◌, false}
use Rattle.keeper_tests.proofs.crashes.a_crash_leaves_what_was_acknowledged.Given as goal

abbrev pub invariant-loop-number : goal.invariant-loop-number
invariant-loop-number g l = l.keeper.unsettled ≡ false

abbrev pub invariant-loop-moment : goal.invariant-loop-moment
invariant-loop-moment g l = l.acknowledged ≤ l.moment-counter
