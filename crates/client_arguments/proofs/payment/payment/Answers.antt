use Rattle.std.proofs.lemmas.Result.{err_from_is_err_and}
use Rattle.client_arguments.proofs.Unread.{no_amount}
use Rattle.client_arguments.proofs.payment.payment.Goals as goal

pub returns-in_err-amount-clause-payment : goal.returns-in_err-amount-clause-payment
returns-in_err-amount-clause-payment c =
    let p = err_from_is_err_and c.from_residual-in_err-amount.result c.from_residual-in_err-amount.ensures.1 in
    rw (p.1, p.2) (no_amount c.args.bank.now c.args.number.now c.args.kind.now c.args.other_number.now c.args.other_kind.now c.args.amount.now
    c.in_err-amount.field-0.0 c.in_err-amount.ensures)
