use Rattle.bank_transfers.proofs.GrowthLemmas.{moved-push}
use Rattle.bank_transfers.proofs.laws.moved_by_one_more.Goals as goal

pub returns : goal.returns
returns c = moved-push
