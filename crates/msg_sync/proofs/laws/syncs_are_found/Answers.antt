use Rattle.msg_sync.proofs.Syncs.{syncs_are_found}
use Rattle.msg_sync.proofs.laws.syncs_are_found.Goals as goal

pub returns : goal.returns
returns c = syncs_are_found c.transactions_are_found.ensures
