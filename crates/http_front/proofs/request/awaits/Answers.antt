use Rattle.std.proofs.Common.{Err, refl, arith}
use Rattle.http_front.proofs.HeadLemmas.{refused_awaits}
use Rattle.http_front.proofs.request.awaits.Goals as goal

pub returns-in-Err : goal.returns-in-Err
returns-in-Err c = refused_awaits (Err c.in-Err.field-0) c.args.buf.now 2730 c.in-Err.field-0 c.ends_in_target.result c.if-buf-ge-MAX_BYTES.false (omega arith) c.in-Err.ensures.invalid refl c.in-Err.ensures.too_many c.ends_in_target.ensures
