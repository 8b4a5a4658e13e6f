use Rattle.bank_recur.proofs.GrowthLemmas.{is_model_dropped-push}
use Rattle.bank_recur.proofs.laws.model_dropped_by_one_more.Goals as goal

pub returns : goal.returns
returns c = is_model_dropped-push
