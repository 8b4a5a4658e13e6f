use Rattle.std.proofs.Common.{sym, ap, ◌∙◌, arith}
use Rattle.ofx_types.specs.Calendar.{civil_of}
use Rattle.bank_model.specs.Recurrence.{if_in_calendar}
use Rattle.bank_recur.proofs.SeriesDays.{twice_odd_early, twice_odd_late}
use Rattle.bank_recur.proofs.date.twice_monthly.Goals as goal

pub returns-then-day-le-HALF : goal.returns-then-day-le-HALF
returns-then-day-le-HALF c =
    let day = c.civil_date-day.ensures.day in
    let odd = twice_odd_early c.args.first.0 (civil_of c.args.first.0).day c.args.occurrence (omega (arith, day)) (omega arith) in
    rw day at c.day_in_month-then-day-le-HALF.ensures ∙ sym (ap if_in_calendar odd)

pub returns-else-day-le-HALF : goal.returns-else-day-le-HALF
returns-else-day-le-HALF c =
    let day = c.civil_date-day.ensures.day in
    let odd = twice_odd_late c.args.first.0 (civil_of c.args.first.0).day c.args.occurrence (omega (arith, day)) (omega arith) in
    rw day at c.day_in_month-else-day-le-HALF.ensures ∙ sym (ap if_in_calendar odd)
