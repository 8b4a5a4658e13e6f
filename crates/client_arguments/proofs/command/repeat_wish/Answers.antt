use Rattle.std.proofs.lemmas.Result.{err_from_is_err_and}
use Rattle.client_arguments.proofs.Unread.{no_repeat}
use Rattle.client_arguments.proofs.command.repeat_wish.Goals as goal

pub returns-in_err-recur : goal.returns-in_err-recur
returns-in_err-recur c =
    let p = err_from_is_err_and c.from_residual.result c.from_residual.ensures.1 in
    rw (p.1, p.2) (no_repeat c.args.bank.now c.args.arguments.now c.in_err-recur.field-0.0 c.in_err-recur.ensures)
