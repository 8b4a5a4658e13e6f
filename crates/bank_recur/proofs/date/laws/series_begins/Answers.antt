use Rattle.bank_recur.proofs.SeriesDays.{series_begins}
use Rattle.bank_recur.proofs.date.laws.series_begins.Goals as goal

pub returns : goal.returns
returns c = series_begins
