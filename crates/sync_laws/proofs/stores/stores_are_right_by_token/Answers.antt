use Rattle.sync_laws.proofs.Events.{grows_sync}
use Rattle.sync_laws.proofs.Named.{taken_by_token, text_of_right}
use Rattle.sync_laws.proofs.Taking.{token_by_token}
use Rattle.sync_laws.proofs.stores.stores_are_right_by_token.Goals as goal

pub returns-clause-text : goal.returns-clause-text
returns-clause-text c = text_of_right

pub returns-clause-right : goal.returns-clause-right
returns-clause-right c = λ setup S user at ask object store text within sound known named same kind read kept right.
    taken_by_token setup S user at ask object store text within sound ((grows_sync setup S user at ask).order sound) known named same kind read kept right

pub returns-clause-token : goal.returns-clause-token
returns-clause-token c = λ setup S user at ask object store text within sound named kind kept. token_by_token setup S user at ask object store text within sound named kind kept
