use Rattle.std.proofs.Common.{◌≡◌, ◌<◌, ◌^◌, sym, arith, rules, ◌∙◌}
use Rattle.std.proofs.lemmas.Fmt.{decimal_injective}
use Rattle.program_arguments.proofs.number.number_within.Goals as goal

pub returns-then-number-least-clause-none : goal.returns-then-number-least-clause-none
returns-then-number-least-clause-none c n is =
    let small : c.in_ok-number.number < 2 ^ 64 = search rules in
    let same : n ≡ c.in_ok-number.number = decimal_injective n c.in_ok-number.number (omega (arith, is.to, c.ranges.most.fits)) small (sym is.spelled ∙ c.in_ok-number.ensures.some) in
    omega (arith, is.from, same, c.if-number-least.true)

pub returns-then-most-number-clause-none : goal.returns-then-most-number-clause-none
returns-then-most-number-clause-none c n is =
    let small : c.in_ok-number.number < 2 ^ 64 = search rules in
    let same : n ≡ c.in_ok-number.number = decimal_injective n c.in_ok-number.number (omega (arith, is.to, c.ranges.most.fits)) small (sym is.spelled ∙ c.in_ok-number.ensures.some) in
    omega (arith, is.to, same, c.if-most-number.true)
