use Rattle.std.proofs.lemmas.Result.{err_from_is_err_and}
use Rattle.client_arguments.proofs.Unread.{no_transfer}
use Rattle.client_arguments.proofs.command.transfer_wish.Goals as goal

pub returns-in_err-transfer_of : goal.returns-in_err-transfer_of
returns-in_err-transfer_of c =
    let p = err_from_is_err_and c.from_residual.result c.from_residual.ensures.1 in
    rw (p.1, p.2) (no_transfer c.args.bank.now c.args.arguments.now c.in_err-transfer_of.field-0.0 c.in_err-transfer_of.ensures)
