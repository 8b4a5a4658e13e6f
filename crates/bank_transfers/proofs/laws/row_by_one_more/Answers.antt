use Rattle.bank_transfers.proofs.GrowthLemmas.{row_of-push}
use Rattle.bank_transfers.proofs.laws.row_by_one_more.Goals as goal

pub returns : goal.returns
returns c = row_of-push
