use Rattle.std.proofs.Common.{◌+◌, arith}
use Rattle.http_front.proofs.FieldLemmas.{value_small, value_step}
use Rattle.http_front.proofs.fields.value_of.Goals as goal

pub overflow_mul-value : goal.overflow_mul-value
overflow_mul-value c = omega (arith, c.loop-digit.invariant, value_small c.args.digits.now c.loop-digit.digit-index c.requires.are c.requires.few)

pub overflow_add-value : goal.overflow_add-value
overflow_add-value c = omega (arith, c.loop-digit.invariant, value_step c.args.digits.now c.loop-digit.digit-index (omega arith) c.requires.are, value_small c.args.digits.now (c.loop-digit.digit-index + 1) c.requires.are c.requires.few)

pub loop-digit-preserved : goal.loop-digit-preserved
loop-digit-preserved c = omega (arith, c.loop-digit.invariant, value_step c.args.digits.now c.loop-digit.digit-index (omega arith) c.requires.are)
