use Rattle.std.proofs.Common.{◌-◌}
use Rattle.ofx_world.specs.Rehearsal.{AreTurns}
use Rattle.ofx_world.specs.World.{WorldView}
use Rattle.ofx_world.proofs.rehearsal.rehearse.Given as goal

-- The turns so far, and any that follow, are all turns.
abbrev pub invariant-loop-turn : goal.invariant-loop-turn
invariant-loop-turn l = (last : WorldView) → AreTurns (2000 - l.turn) l.turn l.chance.state l.world last → AreTurns 2000 0 l.fn.seed l.initial.world last
