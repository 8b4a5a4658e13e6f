-- The keeper has its records, and nothing is to be settled.
use Rattle.std.proofs.Common.{◌≡◌, false}
use Rattle.keeper_tests.proofs.crashes.judge.Given as goal

abbrev pub invariant-loop-number : goal.invariant-loop-number
invariant-loop-number g l = record { settled : l.keeper.unsettled ≡ false; size : l.keeper.size ≡ l.count }
