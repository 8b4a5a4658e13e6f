use Rattle.std.proofs.Common.{◌≡◌, refl, subst}
use Rattle.bank_arguments.specs.declared.command.Command.{Command}
use Rattle.bank_commands.specs.Rehearsing.{RunsElsewhere}
use Rattle.bank_arguments.proofs.SameCommand.{same_seed}
use Rattle.bank_commands.proofs.Commands.{other_elsewhere, elsewhere_other}
use Rattle.bank_commands.proofs.dispatch.command_told.Goals as goal

pub returns-in-Rehearse-clause-usage : goal.returns-in-Rehearse-clause-usage
returns-in-Rehearse-clause-usage g c = (
  λ two. absurd (c.rehearsed.ensures.formed two),
  λ elsewhere. absurd (subst (λ (command : Command). RunsElsewhere command) c.in-Rehearse.is elsewhere),
)

pub returns-in-Rehearse-clause-unread : goal.returns-in-Rehearse-clause-unread
returns-in-Rehearse-clause-unread g c elsewhere = absurd (subst (λ (command : Command). RunsElsewhere command) c.in-Rehearse.is elsewhere)

pub returns-in-Rehearse-clause-rehearse : goal.returns-in-Rehearse-clause-rehearse
returns-in-Rehearse-clause-rehearse g c seed is =
    let same : seed ≡ c.in-Rehearse.seed = same_seed c.args.command seed c.in-Rehearse.seed is c.in-Rehearse.is in
    rw same (refl, refl, refl, refl, c.rehearsed.ensures.end)

pub returns-in_default-clause-usage : goal.returns-in_default-clause-usage
returns-in_default-clause-usage g c = (
  λ two. other_elsewhere c.args.command c.in_default.not-Rehearse (c.session_told.ensures.usage.0 two),
  λ elsewhere. c.session_told.ensures.usage.1 (elsewhere_other c.args.command elsewhere),
)

pub returns-in_default-clause-unread : goal.returns-in_default-clause-unread
returns-in_default-clause-unread g c elsewhere = c.session_told.ensures.unread (elsewhere_other c.args.command elsewhere)

pub returns-in_default-clause-rehearse : goal.returns-in_default-clause-rehearse
returns-in_default-clause-rehearse g c seed is = absurd (c.in_default.not-Rehearse seed is)
