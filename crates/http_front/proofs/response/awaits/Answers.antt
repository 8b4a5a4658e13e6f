use Rattle.std.proofs.Common.{Err, refl, arith}
use Rattle.std.proofs.lemmas.Bool.{false≢true}
use Rattle.http_front.proofs.HeadLemmas.{refused_response}
use Rattle.http_front.proofs.response.awaits.Goals as goal

pub returns-in-Err : goal.returns-in-Err
returns-in-Err c = (
  λ yes. absurd (false≢true yes),
  λ awaits. absurd (refused_response (Err c.in-Err.field-0) c.args.buf.now 2730 c.in-Err.field-0 c.if-buf-ge-MAX_BYTES.false (omega arith) c.in-Err.ensures.invalid refl c.in-Err.ensures.too_many awaits),
)
