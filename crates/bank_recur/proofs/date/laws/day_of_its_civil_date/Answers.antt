use Rattle.bank_recur.proofs.CivilDays.{day_on-civil_of}
use Rattle.bank_recur.proofs.date.laws.day_of_its_civil_date.Goals as goal

pub returns : goal.returns
returns c = day_on-civil_of
