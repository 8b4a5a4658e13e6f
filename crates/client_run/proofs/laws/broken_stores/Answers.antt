use Rattle.client_run.proofs.StoreFaults.{only_stores}
use Rattle.client_run.proofs.laws.broken_stores.Goals as goal

pub returns : goal.returns
returns c = only_stores
