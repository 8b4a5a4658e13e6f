use Rattle.std.proofs.lemmas.Result.{err_from_is_err_and}
use Rattle.client_arguments.proofs.Unread.{no_cancel}
use Rattle.client_arguments.proofs.command.cancel_of.Goals as goal

pub returns-in_err-of_id : goal.returns-in_err-of_id
returns-in_err-of_id c bank =
    let p = err_from_is_err_and c.from_residual.result c.from_residual.ensures.1 in
    rw (p.1, p.2) (no_cancel bank c.args.arguments.now c.in_err-of_id.field-0.0 c.in_err-of_id.ensures)
