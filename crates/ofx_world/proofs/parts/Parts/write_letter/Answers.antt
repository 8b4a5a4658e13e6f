use Rattle.std.proofs.Common.{sym, subst}
use Rattle.ofx_types.specs.Calendar.{IsMoment}
use Rattle.ofx_world.specs.World.{WorldView}
use Rattle.ofx_world.proofs.PartSteps.{cut_step, letter_step}
use Rattle.ofx_world.proofs.parts.Parts.write_letter.Goals as goal

pub write_letter-requires : goal.write_letter-requires
write_letter-requires c = subst (λ (w : WorldView). IsMoment w.clock.0) (sym c.self.view_is) c.requires.clock

pub returns-clause-step : goal.returns-clause-step
returns-clause-step c =
    letter_step _ c.args.self.now c.self.view_is c.write_letter.new.self c.write_letter.result c.args.user c.args.subject.now c.args.body.now c.write_letter.ensures.written

pub returns-clause-refused : goal.returns-clause-refused
returns-clause-refused c = cut_step _ c.args.self.now c.self.view_is c.write_letter.new.self c.write_letter.result c.write_letter.ensures.refused
