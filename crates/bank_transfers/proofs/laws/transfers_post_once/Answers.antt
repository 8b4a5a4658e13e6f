use Rattle.bank_transfers.proofs.OnceLemmas.{posts_once}
use Rattle.bank_transfers.proofs.laws.transfers_post_once.Goals as goal

pub returns : goal.returns
returns c = posts_once
