use Rattle.bank_recur.proofs.CivilDays.{civil_of-day_on}
use Rattle.bank_recur.proofs.date.laws.civil_of_its_day.Goals as goal

pub returns : goal.returns
returns c = civil_of-day_on
