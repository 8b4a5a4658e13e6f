use Rattle.std.proofs.Common.{◌≡◌, ◌≤◌, [], false}
use Rattle.ofx_ports.specs.Known.{Stays}
use Rattle.bank_replay.proofs.Taking.{HasTaken}
use Rattle.bank_replay.proofs.records.replay_all.Given as goal

-- the bank has taken so many of the keeper's records, which stay as they are
abbrev pub invariant-loop-before : goal.invariant-loop-before
invariant-loop-before g l = record {
  setup : l.bank.setup ≡ l.fn.setup;
  pool : l.bank.held ≡ [];
  taken : HasTaken l.fn.setup (g.K.Keeper.records l.fn.keeper) l.before l.bank.state;
  list : Stays (g.K.Keeper.records l.fn.keeper) (g.K.Keeper.records l.keeper);
  settled : g.K.Keeper.unsettled l.keeper ≡ false;
  size : g.K.Keeper.size l.keeper ≡ g.K.Keeper.size l.fn.keeper;
  faults : g.K.Keeper.faults l.fn.keeper ≤ g.K.Keeper.faults l.keeper;
}
