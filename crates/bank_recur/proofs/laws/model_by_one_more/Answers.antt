use Rattle.bank_recur.proofs.GrowthLemmas.{model_of-push}
use Rattle.bank_recur.proofs.laws.model_by_one_more.Goals as goal

pub returns : goal.returns
returns c = model_of-push
