use Rattle.std.proofs.Common.{length}
use Rattle.std.proofs.lemmas.Bool.{ne_eqb}
use Rattle.postgres_messages.proofs.Loops.{field_goes_on}
use Rattle.postgres_messages.proofs.texts.Texts.field.Goals as goal

pub loop-preserved : goal.loop-preserved
loop-preserved c = field_goes_on (length c.args.self.now.bytes.now) c.loop.counter c.args.kind c.loop.rest.now c.in-Ok-len1-up-default.field-0-0.now c.in-Ok-len1-up-default.next.now _ c.loop-test.true c.in-Ok-len1-up-default.ensures c.in-Ok-len1-up-default.len_at_least (ne_eqb _ _ c.if-first-kind.false) c.loop.invariant
