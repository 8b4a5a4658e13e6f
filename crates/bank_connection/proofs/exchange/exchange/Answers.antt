use Rattle.std.proofs.Common.{refl}
use Rattle.bank_connection.proofs.OneExchange.{answered_exchange}
use Rattle.bank_connection.proofs.exchange.exchange.Goals as goal

pub returns-in-Ok-clause-exchange : goal.returns-in-Ok-clause-exchange
returns-in-Ok-clause-exchange g c =
    rw c.consume.ensures (answered_exchange _ c.args.number c.args.incoming.now c.args.head c.args.size c.answer_to-answer.result c.closes_after-closes.result _ _ _ c.requires.request
    (rw c.bytes.ensures at c.answer_to-answer.ensures.answers) c.closes_after-closes.ensures.value c.in-Ok.ensures.unread
    (rw (c.code.ensures.code, c.body.ensures) at c.in-Ok.ensures.whole, refl))

pub returns-clause-exchange : goal.returns-clause-exchange
returns-clause-exchange g c =
    rw c.consume.ensures (answered_exchange _ c.args.number c.args.incoming.now c.args.head c.args.size c.answer_to-answer.result c.closes_after-closes.result _ _ _ c.requires.request
    (rw c.bytes.ensures at c.answer_to-answer.ensures.answers) c.closes_after-closes.ensures.value c.in-Err.ensures.unread
    (rw (c.code.ensures.code, c.body.ensures) at c.in-Err.ensures.part, c.in-Err.ensures.faults.cause refl))
