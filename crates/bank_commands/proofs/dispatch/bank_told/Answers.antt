use Rattle.std.proofs.Common.{Ok, refl}
use Rattle.bank_arguments.specs.declared.command.Command.TheVariants.{Answer, Due, Mail, Rehearse}
use Rattle.bank_arguments.proofs.SameCommand.{same_command}
use Rattle.bank_session.proofs.CommandArguments.{mailed}
use Rattle.bank_commands.proofs.Commands.{elsewhere_usage, usage_elsewhere}
use Rattle.bank_commands.proofs.dispatch.bank_told.Goals as goal

pub returns-in-Ok-clause-usage : goal.returns-in-Ok-clause-usage
returns-in-Ok-clause-usage g c = (
  λ two. elsewhere_usage c.args.arguments.now (Ok c.in-Ok.command) c.in-Ok.ensures.answer c.in-Ok.ensures.due c.in-Ok.ensures.letter c.in-Ok.ensures.seed (c.command_told.ensures.usage.0 two),
  λ none. c.command_told.ensures.usage.1 (usage_elsewhere c.args.arguments.now c.in-Ok.command c.in-Ok.ensures.asks none),
)

pub returns-in-Ok-clause-unread : goal.returns-in-Ok-clause-unread
returns-in-Ok-clause-unread g c none = c.command_told.ensures.unread (usage_elsewhere c.args.arguments.now c.in-Ok.command c.in-Ok.ensures.asks none)

pub returns-in-Ok-clause-rehearse : goal.returns-in-Ok-clause-rehearse
returns-in-Ok-clause-rehearse g c seed are = c.command_told.ensures.rehearse seed (same_command c.in-Ok.command (Rehearse seed) (c.in-Ok.ensures.seed seed are))

pub returns-in-Ok-clause-run : goal.returns-in-Ok-clause-run
returns-in-Ok-clause-run g c at are =
    let found = c.in-Ok.ensures.answer at are in
    rw (← found.2) (c.command_told.ensures.run found.0 (same_command c.in-Ok.command (Answer found.0) found.1))

pub returns-in-Ok-clause-due : goal.returns-in-Ok-clause-due
returns-in-Ok-clause-due g c are = c.command_told.ensures.due (same_command c.in-Ok.command Due (c.in-Ok.ensures.due are))

pub returns-in-Ok-clause-mail : goal.returns-in-Ok-clause-mail
returns-in-Ok-clause-mail g c name subject are =
    let found = c.in-Ok.ensures.letter name subject are in
    mailed name subject found.0.name.now found.0.subject.now _ _ c.command_told.result found.2 found.3 (c.command_told.ensures.mail found.0 (same_command c.in-Ok.command (Mail found.0) found.1))

pub returns-in-Ok-clause-clock : goal.returns-in-Ok-clause-clock
returns-in-Ok-clause-clock g c at are =
    let found = c.in-Ok.ensures.answer _ are in
    c.command_told.ensures.clock found.0 at (same_command c.in-Ok.command (Answer found.0) found.1) found.2

pub returns-in-Err-clause-usage : goal.returns-in-Err-clause-usage
returns-in-Err-clause-usage g c = (
  λ two. elsewhere_usage c.args.arguments.now _ c.in-Err.ensures.answer c.in-Err.ensures.due c.in-Err.ensures.letter c.in-Err.ensures.seed tt,
  λ none. rw c.plain.ensures refl,
)

pub returns-in-Err-clause-rehearse : goal.returns-in-Err-clause-rehearse
returns-in-Err-clause-rehearse g c seed are =
    let none = elsewhere_usage c.args.arguments.now _ c.in-Err.ensures.answer c.in-Err.ensures.due c.in-Err.ensures.letter c.in-Err.ensures.seed tt in
    absurd (none.unrehearsed seed are)

pub returns-in-Err-clause-run : goal.returns-in-Err-clause-run
returns-in-Err-clause-run g c at are =
    let none = elsewhere_usage c.args.arguments.now _ c.in-Err.ensures.answer c.in-Err.ensures.due c.in-Err.ensures.letter c.in-Err.ensures.seed tt in
    absurd (none.usage.unanswered at are)

pub returns-in-Err-clause-mail : goal.returns-in-Err-clause-mail
returns-in-Err-clause-mail g c name subject are =
    let none = elsewhere_usage c.args.arguments.now _ c.in-Err.ensures.answer c.in-Err.ensures.due c.in-Err.ensures.letter c.in-Err.ensures.seed tt in
    absurd (none.usage.unmailed (name, subject, are))
