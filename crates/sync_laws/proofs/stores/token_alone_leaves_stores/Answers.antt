use Rattle.std.proofs.Common.{sym, subst}
use Rattle.bank_model.specs.Stores.{Store, IsRight}
use Rattle.sync_laws.specs.SyncRound.{bank_after}
use Rattle.sync_laws.proofs.Events.{grows_sync}
use Rattle.sync_laws.proofs.Lost.{same_token_only}
use Rattle.sync_laws.proofs.Named.{right_grown}
use Rattle.sync_laws.proofs.Strangers.{token_only_same}
use Rattle.sync_laws.proofs.stores.token_alone_leaves_stores.Goals as goal

pub returns-clause-same : goal.returns-clause-same
returns-clause-same c = same_token_only

pub returns-clause-right : goal.returns-clause-right
returns-clause-right c = λ setup S user at ask owner store sound kind right.
    subst (λ (s : Store). IsRight setup owner s (bank_after setup S user at ask).entries) (sym (token_only_same setup S user at ask store kind))
    (right_grown setup S (bank_after setup S user at ask) owner store (grows_sync setup S user at ask) sound right)
