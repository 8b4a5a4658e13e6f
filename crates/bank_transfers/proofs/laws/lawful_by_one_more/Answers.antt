use Rattle.bank_transfers.proofs.OnceLemmas.{lawful-push}
use Rattle.bank_transfers.proofs.laws.lawful_by_one_more.Goals as goal

pub returns : goal.returns
returns c = lawful-push
