use Rattle.std.proofs.Common.{◌≡◌, true, false, arith, ap, sym, ◌∙◌}
use Rattle.jiff_core.proofs.SignedLemmas.{signed_arith, signed_casts}
use Rattle.jiff_core.specs.Date.{epoch_day}
use Rattle.ofx_types.specs.Calendar.{IsDay}
use Rattle.ofx_types.specs.DateReading.{day_number}
use Rattle.std.proofs.Common.{Some}
use Rattle.ofx_values.proofs.CivilLemmas.{number_some, number_none, library_has}
use Rattle.ofx_values.proofs.date.day_number.Goals as goal

pub returns-then-year-lt1900-clause-gives : goal.returns-then-year-lt1900-clause-gives
returns-then-year-lt1900-clause-gives c = number_none _ _ _ (λ v. absurd (omega (arith, v.low)))

found : (c : goal.After-to_unix_epoch_day) → (day_number c.args.year c.args.month c.args.day ≡ Some (epoch_day c.in-Ok.date)) × IsDay (epoch_day c.in-Ok.date)
found c =
    let parts = c.in-Ok.ensures.value in
    number_some c.args.year c.args.month c.args.day c.in-Ok.date c.if-year-lt1900.false (parts.0 ∙ omega (arith, signed_casts)) (omega (arith, signed_casts, parts.1)) (omega (arith, signed_casts, parts.2))

pub returns-in-Ok-clause-range : goal.returns-in-Ok-clause-range
returns-in-Ok-clause-range c = omega (arith, signed_arith, (found c).1, c.to_unix_epoch_day.ensures.value)

pub returns-in-Ok-clause-gives : goal.returns-in-Ok-clause-gives
returns-in-Ok-clause-gives c = (found c).0 ∙ ap Some (sym c.to_unix_epoch_day.ensures.value ∙ omega (arith, signed_arith))

pub returns-in-Err-clause-gives : goal.returns-in-Err-clause-gives
returns-in-Err-clause-gives c =
    number_none _ _ _ (λ v. let s = c.in-Err.ensures.succeeds in
    let no : false ≡ true = s.1 (library_has c.args.year c.args.month c.args.day _ _ _ (omega (arith, signed_casts)) (omega (arith, signed_casts)) (omega (arith, signed_casts)) v) in cc)
