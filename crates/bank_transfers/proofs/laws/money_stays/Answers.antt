use Rattle.bank_transfers.proofs.TogetherLemmas.{balances_stay}
use Rattle.bank_transfers.proofs.laws.money_stays.Goals as goal

pub returns : goal.returns
returns c = balances_stay
