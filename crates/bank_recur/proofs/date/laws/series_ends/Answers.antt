use Rattle.bank_recur.proofs.SeriesDays.{series_ends}
use Rattle.bank_recur.proofs.date.laws.series_ends.Goals as goal

pub returns : goal.returns
returns c = series_ends
