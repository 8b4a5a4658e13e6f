use Rattle.bank_recur.proofs.GrowthLemmas.{next_occurrence-push}
use Rattle.bank_recur.proofs.laws.occurrence_by_one_more.Goals as goal

pub returns : goal.returns
returns c = next_occurrence-push
