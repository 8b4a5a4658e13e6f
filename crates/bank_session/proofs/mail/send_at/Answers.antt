use Rattle.bank_session.proofs.MailLemmas.{mail_with_body}
use Rattle.bank_session.proofs.mail.send_at.Goals as goal

pub returns-clause-ends : goal.returns-clause-ends
returns-clause-ends g c setup_left setup_left' setup_faults setup_faults' =
    mail_with_body c.args.desk.now c.args.name.now c.args.subject.now _ _ c.in_ok-body.body c.write_letter.result c.in_ok-body.ensures.found c.in_ok-body.ensures.at_end (c.write_letter.ensures.ends _ _ _ _ _ _ _ _)
