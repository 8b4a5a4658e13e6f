use Rattle.msg_sync.proofs.SyncReplies.{sync_reply_faults_have_offsets}
use Rattle.msg_sync.proofs.laws.sync_reply_faults_have_offsets.Goals as goal

pub returns : goal.returns
returns c = sync_reply_faults_have_offsets c.transaction_reply_faults_have_offsets.ensures
