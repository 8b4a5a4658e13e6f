use Rattle.bank_transfers.proofs.GrowthLemmas.{is_dropped-push}
use Rattle.bank_transfers.proofs.laws.dropped_by_one_more.Goals as goal

pub returns : goal.returns
returns c = is_dropped-push
