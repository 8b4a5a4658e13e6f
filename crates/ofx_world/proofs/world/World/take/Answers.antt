use Rattle.ofx_world.proofs.StepKeeps.{taken_keeps}
use Rattle.ofx_world.proofs.world.World.take.Goals as goal

pub invariant_of-self : goal.invariant_of-self
invariant_of-self c =
    taken_keeps c.laws_below.ensures c.self.inside.parts c.self.invariant c.take.result c.args.step.now c.take.new.self c.requires c.take.ensures.step
    c.take.ensures.recorded c.take.ensures.refused
