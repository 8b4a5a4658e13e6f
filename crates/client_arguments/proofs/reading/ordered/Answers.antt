use Rattle.std.proofs.lemmas.Result.{err_from_is_err_and}
use Rattle.client_arguments.proofs.Unread.{no_wish}
use Rattle.client_arguments.proofs.reading.ordered.Goals as goal

pub returns-in_err-wish : goal.returns-in_err-wish
returns-in_err-wish c =
    let p = err_from_is_err_and c.from_residual-in_err-wish.result c.from_residual-in_err-wish.ensures.1 in
    rw (p.1, p.2) (no_wish c.args.port.now c.args.name.now c.args.user.now c.args.pass.now c.args.bank.now c.args.command.now c.in_err-wish.field-0.0 c.in_err-wish.ensures)
