use Rattle.sync_laws.proofs.Events.{grows_sync}
use Rattle.sync_laws.proofs.Named.{taken_by_refresh}
use Rattle.sync_laws.proofs.Taking.{token_by_refresh, kept_by_refresh}
use Rattle.sync_laws.proofs.stores.stores_are_right_by_refresh.Goals as goal

pub returns-clause-right : goal.returns-clause-right
returns-clause-right c = λ setup S user at ask object store within sound known named same kind.
    taken_by_refresh setup S user at ask object store within sound ((grows_sync setup S user at ask).order sound) known named same kind

pub returns-clause-token : goal.returns-clause-token
returns-clause-token c = λ setup S user at ask object store within sound named kind. token_by_refresh setup S user at ask object store within sound named kind

pub returns-clause-kept : goal.returns-clause-kept
returns-clause-kept c = λ setup S user at ask object store named kind. kept_by_refresh setup S user at ask object store named kind
