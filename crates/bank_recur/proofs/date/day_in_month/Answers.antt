use Rattle.std.proofs.Common.{◌≡◌, ◌∙◌, w16, to_z, of_z, false, true, arith}
use Rattle.jiff_core.proofs.SignedLemmas.{signed_casts}
use Rattle.bank_recur.proofs.LibraryMonths.{none_after_all, none_unshifted, some_in_month}
use Rattle.bank_recur.proofs.date.day_in_month.Goals as goal

pub returns-then-months-ge-MONTHS : goal.returns-then-months-ge-MONTHS
returns-then-months-ge-MONTHS c =
    none_after_all c.args.first.0 c.args.day c.args.months c.requires.first_in c.requires.day_in (omega arith)

pub returns-in-Ok : goal.returns-in-Ok
returns-in-Ok c =
    let found = c.in-Ok.month in
    let given = c.constrain-date.ensures in
    let same_year : to_z w16 (of_z w16 found.year) ≡ found.year = omega (arith, signed_casts, found.year_in) in
    some_in_month c.args.first.0 c.args.day c.args.months c.civil_date.result found c.constrain-date.result _ c.requires.first_in c.requires.day_in c.civil_date.ensures
    (omega (arith, signed_casts, c.in-Ok.ensures.month))
    (given.year ∙ same_year)
    given.month
    (rw same_year at given.day)
    (omega (arith, signed_casts, c.to_unix_epoch_day.ensures))

pub returns-in-Err : goal.returns-in-Err
returns-in-Err c =
    none_unshifted c.args.first.0 c.args.day c.args.months c.civil_date.result c.requires.first_in c.requires.day_in c.civil_date.ensures
    (λ has. let s = c.in-Err.ensures.succeeds in let no : false ≡ true = s.1 (omega (arith, signed_casts, has)) in cc)
