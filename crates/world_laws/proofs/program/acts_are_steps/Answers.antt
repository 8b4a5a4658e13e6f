use Rattle.world_laws.proofs.ActsBeside.{acts_are}
use Rattle.world_laws.proofs.program.acts_are_steps.Goals as goal

pub returns : goal.returns
returns c = acts_are
