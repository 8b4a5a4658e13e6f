use Rattle.ofx_world.proofs.Steps.{steps_on, cut_on, lawful_on}
use Rattle.ofx_world.proofs.world.World.run.Goals as goal

pub loop-left-preserved : goal.loop-left-preserved
loop-left-preserved c = record {
  steps = steps_on c.args.steps.now c.loop-left.left.now c.step-item.result c.in-len1-up.len_at_least c.step-item.is c.args.self.now c.loop-left.self
      c.take-taken.new.self c.in_ok-taken.ensures.step c.loop-left.invariant.steps;
  cut = cut_on c.args.steps.now c.loop-left.left.now c.step-item.result c.in-len1-up.len_at_least c.step-item.is c.args.self.now c.loop-left.self
      c.take-taken.new.self c.in_ok-taken.ensures.step c.loop-left.invariant.cut;
  lawful = lawful_on c.args.steps.now c.loop-left.left.now c.step-item.result c.in-len1-up.len_at_least c.step-item.is c.args.self.now c.loop-left.self
      c.take-taken.new.self c.in_ok-taken.ensures.step c.loop-left.invariant.lawful;
}
