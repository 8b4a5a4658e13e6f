use Rattle.msg_sync.proofs.SyncReplies.{sync_replies_are_found}
use Rattle.msg_sync.proofs.laws.sync_replies_are_found.Goals as goal

pub returns : goal.returns
returns c = sync_replies_are_found c.transaction_replies_are_found.ensures
