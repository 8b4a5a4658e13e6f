use Rattle.ofx_world.proofs.PartSteps.{cut_step, restart_step}
use Rattle.ofx_world.proofs.parts.Parts.restart_server.Goals as goal

pub returns-clause-step : goal.returns-clause-step
returns-clause-step c = restart_step _ c.args.self.now c.self.view_is c.restart.new.self c.restart.result c.restart.ensures.restarted

pub returns-clause-refused : goal.returns-clause-refused
returns-clause-refused c = cut_step _ c.args.self.now c.self.view_is c.restart.new.self c.restart.result c.restart.ensures.refused
