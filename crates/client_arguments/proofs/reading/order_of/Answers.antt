use Rattle.std.proofs.Common.{◌-◌, length, take, drop}
use Rattle.std.proofs.lemmas.List.{take_rest}
use Rattle.client_arguments.proofs.Ordered.{arguments_read}
use Rattle.client_arguments.proofs.Rows.{six_and_more}
use Rattle.client_arguments.proofs.reading.order_of.Goals as goal

pub returns-in-len6-up : goal.returns-in-len6-up
returns-in-len6-up c =
    let command = take (length c.args.arguments.now - 6) (drop 6 c.args.arguments.now) in
    let row = six_and_more c.args.arguments.now c.port-item.result c._store-item.result c.name-item.result c.user-item.result c.pass-item.result c.bank-item.result command c.in-len6-up.len_at_least c.port-item.is c._store-item.is c.name-item.is c.user-item.is c.pass-item.is c.bank-item.is (take_rest c.args.arguments.now 6) in
    arguments_read c.args.arguments.now c.port-item.result c._store-item.result c.name-item.result c.user-item.result c.pass-item.result c.bank-item.result command c.ordered.result row c.ordered.ensures
