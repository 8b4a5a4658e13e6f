use Rattle.sync_laws.proofs.Named.{empty_is_right}
use Rattle.sync_laws.proofs.stores.empty_stores_are_right.Goals as goal

pub returns : goal.returns
returns c = empty_is_right
