use Rattle.bank_recur.proofs.SeriesDays.{few_occurrences}
use Rattle.bank_recur.proofs.date.laws.series_has_few_occurrences.Goals as goal

pub returns : goal.returns
returns c = few_occurrences
