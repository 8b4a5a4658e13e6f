use Rattle.std.proofs.lemmas.Result.{err_from_is_err_and}
use Rattle.client_arguments.proofs.Unread.{no_check}
use Rattle.client_arguments.proofs.command.check_of.Goals as goal

pub returns-in_err-about : goal.returns-in_err-about
returns-in_err-about c =
    let p = err_from_is_err_and c.from_residual.result c.from_residual.ensures.1 in
    rw (p.1, p.2) (no_check c.args.bank.now c.args.arguments.now c.in_err-about.field-0.0 c.in_err-about.ensures)
