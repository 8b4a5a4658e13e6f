use Rattle.std.proofs.Common.{◌≡◌, take}
use Rattle.ofx_world.specs.Rehearsal as rules
use Rattle.ofx_world.proofs.rehearsal.summary.lost_among.Given as goal

-- those before that are lost
abbrev pub invariant-loop-store : goal.invariant-loop-store
invariant-loop-store l = l.count ≡ rules.lost_among (take l.store-index l.stores)
