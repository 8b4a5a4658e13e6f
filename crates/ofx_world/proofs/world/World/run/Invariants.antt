use Rattle.std.proofs.Common.{length}
use Rattle.std.specs.List.{AllByRecursion}
use Rattle.ofx_world.specs.Kept.{HasLawfulClock}
use Rattle.ofx_world.specs.World.{WorldView, AreSteps, AreCutSteps}
use Rattle.ofx_world.proofs.world.World.run.Given as goal

-- The steps that are left, from the world as it is now, end all of them, and so do those up to one that is refused.
abbrev pub invariant-loop-left : goal.invariant-loop-left
invariant-loop-left l = record {
  steps : (after : WorldView) → AreSteps l.self l.left after → AreSteps l.fn.self l.fn.steps after;
  cut : (after : WorldView) → AreCutSteps l.self l.left after → AreCutSteps l.fn.self l.fn.steps after;
  lawful : AllByRecursion HasLawfulClock l.left;
}

abbrev pub decreases-loop-left : goal.decreases-loop-left
decreases-loop-left l = length l.left
