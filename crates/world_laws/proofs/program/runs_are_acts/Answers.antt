use Rattle.world_laws.proofs.ProgramActs.{runs_act}
use Rattle.world_laws.proofs.program.runs_are_acts.Goals as goal

pub returns : goal.returns
returns c = runs_act
