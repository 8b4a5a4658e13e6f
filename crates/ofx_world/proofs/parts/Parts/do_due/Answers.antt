use Rattle.std.proofs.Common.{sym, subst}
use Rattle.ofx_types.specs.Calendar.{IsMoment}
use Rattle.ofx_world.specs.World.{WorldView}
use Rattle.ofx_world.proofs.PartSteps.{cut_step, due_step, due_recorded}
use Rattle.ofx_world.proofs.parts.Parts.do_due.Goals as goal

pub do_due-requires : goal.do_due-requires
do_due-requires c = subst (λ (w : WorldView). IsMoment w.clock.0) (sym c.self.view_is) c.requires.clock

pub returns-clause-step : goal.returns-clause-step
returns-clause-step c = due_step _ c.args.self.now c.self.view_is c.do_due.new.self c.do_due.result c.do_due.ensures.done

pub returns-clause-recorded : goal.returns-clause-recorded
returns-clause-recorded c = due_recorded _ c.args.self.now c.self.view_is c.do_due.new.self c.do_due.result c.do_due.ensures.codes

pub returns-clause-refused : goal.returns-clause-refused
returns-clause-refused c = cut_step _ c.args.self.now c.self.view_is c.do_due.new.self c.do_due.result c.do_due.ensures.refused
