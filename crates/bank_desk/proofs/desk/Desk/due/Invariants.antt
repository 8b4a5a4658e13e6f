use Rattle.std.proofs.Common.{◌≡◌, ◌-◌, ◌≤◌, false}
use Rattle.bank_desk.proofs.DueEvents.{HaveHappened}
use Rattle.bank_desk.proofs.desk.Desk.due.Given as goal

-- so many events of a run have happened and are kept
abbrev pub invariant-loop-count : goal.invariant-loop-count
invariant-loop-count g l = record {
  happened : HaveHappened l.at l.fn.self l.self (g.K.Keeper.records l.fn.keeper) (g.K.Keeper.records l.keeper) l.count;
  few : l.count ≤ 100000;
  settled : g.K.Keeper.unsettled l.keeper ≡ false;
  later : g.K.Keeper.faults l.fn.keeper ≤ g.K.Keeper.faults l.keeper;
}

abbrev pub decreases-loop-count : goal.decreases-loop-count
decreases-loop-count g l = 100000 - l.count
