use Rattle.std.proofs.Common.{length, sym}
use Rattle.postgres_messages.proofs.Loops.{has_goes_on}
use Rattle.postgres_messages.proofs.texts.Texts.contains.Goals as goal

pub loop-preserved : goal.loop-preserved
loop-preserved c = has_goes_on (length c.args.self.now.bytes.now) c.loop.counter c.args.wanted.now c.loop.rest.now c.in-Ok.text.now c.in-Ok.next.now _ c.loop-test.true c.in-Ok.ensures (sym c.if-not-is_empty.ensures) (sym c.if-eq.ensures) c.loop.invariant
