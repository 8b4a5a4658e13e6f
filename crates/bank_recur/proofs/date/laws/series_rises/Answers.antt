use Rattle.bank_recur.proofs.SeriesDays.{series_rises}
use Rattle.bank_recur.proofs.date.laws.series_rises.Goals as goal

pub returns : goal.returns
returns c = series_rises
