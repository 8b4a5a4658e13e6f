use Rattle.client_arguments.proofs.Rows.{eight}
use Rattle.client_arguments.proofs.payment.repeat_of.Goals as goal

pub returns-in_ok-info-in-len8 : goal.returns-in_ok-info-in-len8
returns-in_ok-info-in-len8 c = record {
  number = c.number-item.result;
  kind = c.kind-item.result;
  other_number = c.other_number-item.result;
  other_kind = c.other_kind-item.result;
  amount = c.amount-item.result;
  first = c.day-item.result;
  freq = c.freq-item.result;
  count = c.count-item.result;
  spelled = eight c.args.arguments.now c.number-item.result c.kind-item.result c.other_number-item.result c.other_kind-item.result
      c.amount-item.result c.day-item.result c.freq-item.result c.count-item.result c.in-len8.len_at_least c.in-len8.len_below
      c.number-item.is c.kind-item.is c.other_number-item.is c.other_kind-item.is c.amount-item.is c.day-item.is c.freq-item.is c.count-item.is;
  payment = c.in_ok-info-in-len8.ensures.payment;
  due_is = rw c.in_ok-info-in-len8.ensures.due c.in_ok-first-in-len8.ensures;
  recur_is = c.in_ok-recur-in-len8.ensures;
}
