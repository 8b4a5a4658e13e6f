use Rattle.std.proofs.Common.{Err, ap}
use Rattle.bank_session.proofs.DueCommand.{due_undone}
use Rattle.bank_session.proofs.due.write_due.Goals as goal

pub returns-in-Err-clause-ends : goal.returns-in-Err-clause-ends
returns-in-Err-clause-ends g c setup_left setup_left' left setup_faults setup_faults' faults =
    let prefix = c.in-Err.ensures.prefix in
    rw c.stop_of.ensures (due_undone c.args.desk.now.setup c.args.desk.now.state setup_left setup_left' left _ setup_faults setup_faults' faults _ _ _ _ _ _ _ _ _ c.now-moment.result c.in-Err.undone c.now-moment.ensures.shown prefix (λ e. c.in-Err.ensures.faults.cause (ap Err e)))
