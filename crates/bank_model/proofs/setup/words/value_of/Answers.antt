use Rattle.std.proofs.Common.{◌+◌, arith}
use Rattle.bank_model.proofs.SetupNumbers.{value_small, value_step}
use Rattle.bank_model.proofs.setup.words.value_of.Goals as goal

pub overflow_mul-value : goal.overflow_mul-value
overflow_mul-value c = omega (arith, c.loop-digit.invariant, value_small c.args.digits.now c.loop-digit.digit-index c.requires.digits c.requires.few)

pub overflow_add-value : goal.overflow_add-value
overflow_add-value c = omega (arith, c.loop-digit.invariant, value_step c.args.digits.now c.loop-digit.digit-index (omega arith) c.requires.digits, value_small c.args.digits.now (c.loop-digit.digit-index + 1) c.requires.digits c.requires.few)

pub loop-digit-preserved : goal.loop-digit-preserved
loop-digit-preserved c = omega (arith, c.loop-digit.invariant, value_step c.args.digits.now c.loop-digit.digit-index (omega arith) c.requires.digits)

pub returns-clause-small : goal.returns-clause-small
returns-clause-small c = omega (arith, c.loop-digit.invariant, value_small c.args.digits.now c.loop-digit.digit-index c.requires.digits c.requires.few)
