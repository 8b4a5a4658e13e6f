use Rattle.std.proofs.Common.{Err, ap}
use Rattle.bank_session.proofs.MailLemmas.{letter_undone}
use Rattle.bank_session.proofs.mail.write_to.Goals as goal

pub returns-in-Err-clause-ends : goal.returns-in-Err-clause-ends
returns-in-Err-clause-ends g c setup_left setup_left' left left' setup_faults setup_faults' faults faults' name named =
    let undone = c.in-Err.ensures in
    rw c.stop_of.ensures (letter_undone c.args.desk.now c.args.to.0 name c.args.subject.now c.args.body setup_left setup_left' left left' _ setup_faults setup_faults' faults faults' _ _ _ _ _ _ _ _ _ _ c.now-moment.result c.in-Err.undone named c.now-moment.ensures.shown (λ e. undone.refused (ap Err e)) (λ e. undone.unkept (ap Err e)) (λ e. undone.faults.cause (ap Err e)))
