use Rattle.bank_transfers.proofs.RepresentsLemmas.{holds_still}
use Rattle.bank_transfers.proofs.laws.models_leave_transfers.Goals as goal

pub returns : goal.returns
returns c = holds_still
