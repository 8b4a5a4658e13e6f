use Rattle.std.proofs.Common.{arith}
use Rattle.ofx_values.proofs.DigitLemmas.{digit_at, number_more, power_more, power_room}
use Rattle.ofx_values.proofs.digits.number.Goals as goal

pub overflow_mul-value : goal.overflow_mul-value
overflow_mul-value c =
    omega (arith, power_room c.loop-digit.digit-index c.loop-digit.value c.loop-digit.invariant.below (omega arith))

pub overflow_add-value : goal.overflow_add-value
overflow_add-value c =
    let digit = digit_at c.args.digits.now c.loop-digit.digit-index c.requires.are c.loop-digit-test.true in
    omega (arith, power_room c.loop-digit.digit-index c.loop-digit.value c.loop-digit.invariant.below (omega arith))

pub loop-digit-preserved : goal.loop-digit-preserved
loop-digit-preserved c =
    let digit = digit_at c.args.digits.now c.loop-digit.digit-index c.requires.are c.loop-digit-test.true in
    record {
      is = omega (arith, c.loop-digit.invariant.is, number_more c.args.digits.now c.loop-digit.digit-index c.requires.are c.loop-digit-test.true);
      below = power_more c.loop-digit.digit-index c.loop-digit.value _ c.loop-digit.invariant.below (omega arith);
    }

pub returns-clause-bound : goal.returns-clause-bound
returns-clause-bound c = power_room c.loop-digit.digit-index c.loop-digit.value c.loop-digit.invariant.below (omega arith)
