use Rattle.std.proofs.Common.{◌≡◌, refl, subst}
use Rattle.bank_arguments.specs.declared.command.AnswerArguments.{AnswerArguments}
use Rattle.bank_arguments.specs.declared.command.LetterArguments.{LetterArguments}
use Rattle.bank_arguments.specs.declared.command.Command.{Command}
use Rattle.bank_session.specs.Arguments.{IsOther}
use Rattle.bank_arguments.proofs.SameCommand.{same_answer, same_letter}
use Rattle.bank_session.proofs.StatusLemmas.{is_run, never_usage}
use Rattle.bank_session.proofs.DueCommand.{is_due_command, due_never_usage}
use Rattle.bank_session.proofs.MailLemmas.{is_mail_command, mail_never_usage}
use Rattle.bank_session.proofs.Stopping.{settled_reported}
use Rattle.bank_session.proofs.answer.session_told.Goals as goal

pub returns-in-Answer-clause-usage : goal.returns-in-Answer-clause-usage
returns-in-Answer-clause-usage g c = (
  λ two. absurd (never_usage c.in-Answer.found.at _ _ c.run.result c.report_of_end.result c.report_of_end.ensures c.run.ensures.ends two),
  λ other. absurd (subst (λ (command : Command). IsOther command) c.in-Answer.is other),
)

pub returns-in-Answer-clause-unread : goal.returns-in-Answer-clause-unread
returns-in-Answer-clause-unread g c other = absurd (subst (λ (command : Command). IsOther command) c.in-Answer.is other)

pub returns-in-Answer-clause-run : goal.returns-in-Answer-clause-run
returns-in-Answer-clause-run g c found is =
    let same : found ≡ c.in-Answer.found = same_answer c.args.command found c.in-Answer.found is c.in-Answer.is in
    rw same (is_run c.one_setup.ensures c.one_bank.ensures c.in-Answer.found.at _ _ c.run.result c.report_of_end.result c.report_of_end.ensures c.run.ensures.ends)

pub returns-in-Answer-clause-settled : goal.returns-in-Answer-clause-settled
returns-in-Answer-clause-settled g c = settled_reported c.run.result c.report_of_end.result _ c.report_of_end.ensures c.run.ensures.settled

pub returns-in-Due-clause-usage : goal.returns-in-Due-clause-usage
returns-in-Due-clause-usage g c =
    let ends = c.do_due_once.ensures.ends (g.B.Source.left c.args.input.now) (g.B.Source.faults c.args.input.now) in (
      λ two. absurd (due_never_usage _ _ c.do_due_once.result c.report_of_end-in-Due.result c.report_of_end-in-Due.ensures ends two),
      λ other. absurd (subst (λ (command : Command). IsOther command) c.in-Due.is other),
    )

pub returns-in-Due-clause-due : goal.returns-in-Due-clause-due
returns-in-Due-clause-due g c is = (
  refl,
  is_due_command c.one_setup.ensures c.one_bank.ensures _ _ c.do_due_once.result c.report_of_end-in-Due.result c.report_of_end-in-Due.ensures (c.do_due_once.ensures.ends (g.B.Source.left c.args.input.now) (g.B.Source.faults c.args.input.now)),
)

pub returns-in-Due-clause-settled : goal.returns-in-Due-clause-settled
returns-in-Due-clause-settled g c = settled_reported c.do_due_once.result c.report_of_end-in-Due.result _ c.report_of_end-in-Due.ensures c.do_due_once.ensures.settled

pub returns-in-Mail-clause-usage : goal.returns-in-Mail-clause-usage
returns-in-Mail-clause-usage g c = (
  λ two. absurd (mail_never_usage c.in-Mail.letter.name.now c.in-Mail.letter.subject.now _ _ c.send_letter.result c.report_of_end-in-Mail.result c.report_of_end-in-Mail.ensures c.send_letter.ensures.ends two),
  λ other. absurd (subst (λ (command : Command). IsOther command) c.in-Mail.is other),
)

pub returns-in-Mail-clause-unread : goal.returns-in-Mail-clause-unread
returns-in-Mail-clause-unread g c other = absurd (subst (λ (command : Command). IsOther command) c.in-Mail.is other)

pub returns-in-Mail-clause-mail : goal.returns-in-Mail-clause-mail
returns-in-Mail-clause-mail g c letter is =
    let same : letter ≡ c.in-Mail.letter = same_letter c.args.command letter c.in-Mail.letter is c.in-Mail.is in
    rw same (is_mail_command c.one_setup.ensures c.one_bank.ensures c.in-Mail.letter.name.now c.in-Mail.letter.subject.now _ _ c.send_letter.result c.report_of_end-in-Mail.result c.report_of_end-in-Mail.ensures c.send_letter.ensures.ends)

pub returns-in-Mail-clause-settled : goal.returns-in-Mail-clause-settled
returns-in-Mail-clause-settled g c = settled_reported c.send_letter.result c.report_of_end-in-Mail.result _ c.report_of_end-in-Mail.ensures c.send_letter.ensures.settled

pub returns-in-Check-clause-usage : goal.returns-in-Check-clause-usage
returns-in-Check-clause-usage g c = (λ two. rw c.in-Check.is tt, λ other. rw c.no_run.ensures refl)

pub returns-in-Rehearse-clause-usage : goal.returns-in-Rehearse-clause-usage
returns-in-Rehearse-clause-usage g c = (λ two. rw c.in-Rehearse.is tt, λ other. rw c.no_run-in-Rehearse.ensures refl)

pub returns-in-Serve-clause-usage : goal.returns-in-Serve-clause-usage
returns-in-Serve-clause-usage g c = (λ two. rw c.in-Serve.is tt, λ other. rw c.no_run-in-Serve.ensures refl)
