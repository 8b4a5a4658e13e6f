use Rattle.sync_laws.proofs.Strangers.{stranger_reported, stranger_bank, stranger_after, stranger_refresh, token_only_same}
use Rattle.sync_laws.proofs.stores.strangers_stores_are_lost.Goals as goal

pub returns-clause-reported : goal.returns-clause-reported
returns-clause-reported c = λ setup S user at ask none. stranger_reported setup S user at ask none

pub returns-clause-bank : goal.returns-clause-bank
returns-clause-bank c = λ setup S user at ask none. stranger_bank setup S user at ask none

pub returns-clause-after : goal.returns-clause-after
returns-clause-after c = λ setup S user at ask store text none kind. stranger_after setup S user at ask store text none kind

pub returns-clause-refresh : goal.returns-clause-refresh
returns-clause-refresh c = λ setup S user at ask store none kind. stranger_refresh setup S user at ask store none kind

pub returns-clause-token : goal.returns-clause-token
returns-clause-token c = λ setup S user at ask store none kind. token_only_same setup S user at ask store kind
