use Rattle.std.proofs.lemmas.Result.{err_from_is_err_and}
use Rattle.client_arguments.proofs.Modified.{modify_said, no_modify}
use Rattle.client_arguments.proofs.Rows.{five}
use Rattle.client_arguments.proofs.command.modify_of.Goals as goal

pub returns-in_err-amount-in-len5 : goal.returns-in_err-amount-in-len5
returns-in_err-amount-in-len5 c =
    let p = err_from_is_err_and c.from_residual-in_err-amount-in-len5.result c.from_residual-in_err-amount-in-len5.ensures.1 in
    let row = five c.args.arguments.now c.argument-item.result c.number-item.result c.kind-item.result c.amount-item.result c.day-item.result c.in-len5.len_at_least c.in-len5.len_below
    c.argument-item.is c.number-item.is c.kind-item.is c.amount-item.is c.day-item.is in
    rw (p.1, p.2) (no_modify c.args.bank.now c.args.arguments.now c.argument-item.result c.number-item.result c.kind-item.result c.amount-item.result c.day-item.result
    c.in_err-amount-in-len5.field-0.0 row c.in_err-amount-in-len5.ensures)

pub returns-in_ok-day-in-len5 : goal.returns-in_ok-day-in-len5
returns-in_ok-day-in-len5 c =
    let row = five c.args.arguments.now c.argument-item.result c.number-item.result c.kind-item.result c.amount-item.result c.day-item.result c.in-len5.len_at_least c.in-len5.len_below
    c.argument-item.is c.number-item.is c.kind-item.is c.amount-item.is c.day-item.is in
    modify_said c.args.bank.now c.args.arguments.now c.argument-item.result c.number-item.result c.kind-item.result c.amount-item.result c.day-item.result
    c.in_ok-id-in-len5.id c.in_ok-to-in-len5.to c.in_ok-amount-in-len5.amount c.in_ok-day-in-len5.day row
    c.in_ok-id-in-len5.ensures c.in_ok-to-in-len5.ensures c.in_ok-amount-in-len5.ensures c.in_ok-day-in-len5.ensures
