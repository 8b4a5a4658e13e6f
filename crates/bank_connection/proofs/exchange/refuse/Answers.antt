use Rattle.std.proofs.Common.{refl}
use Rattle.bank_connection.proofs.OneExchange.{refused_exchange}
use Rattle.bank_connection.proofs.exchange.refuse.Goals as goal

pub returns-in-Ok-clause-exchange : goal.returns-in-Ok-clause-exchange
returns-in-Ok-clause-exchange g c setup number shown known =
    rw c.consume.ensures (refused_exchange setup number c.args.incoming.now c.args.size c.args.refusal _ _ _ _ _ _ _ _ shown known _ c.requires.request.1 c.in-Ok.ensures.unread
    (rw (c.code.ensures.code, c.body.ensures) at c.in-Ok.ensures.whole, refl))

pub returns-in-Err-clause-exchange : goal.returns-in-Err-clause-exchange
returns-in-Err-clause-exchange g c setup number shown known =
    rw c.consume.ensures (refused_exchange setup number c.args.incoming.now c.args.size c.args.refusal _ _ _ _ _ _ _ _ shown known _ c.requires.request.1 c.in-Err.ensures.unread
    (rw (c.code.ensures.code, c.body.ensures) at c.in-Err.ensures.part, c.in-Err.ensures.faults.cause refl))
