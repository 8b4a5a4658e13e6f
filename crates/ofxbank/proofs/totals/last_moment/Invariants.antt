use Rattle.std.proofs.Common.{◌≡◌, false}
use Rattle.ofxbank.proofs.totals.last_moment.Given as goal

-- the keeper has as many records as at first, and nothing to be settled
abbrev pub invariant-loop-before : goal.invariant-loop-before
invariant-loop-before g l = record {
  settled : g.K.Keeper.unsettled l.keeper ≡ false;
  size : g.K.Keeper.size l.keeper ≡ g.K.Keeper.size l.fn.keeper;
}
