use Rattle.msg_sync.proofs.Syncs.{sync_faults_have_offsets}
use Rattle.msg_sync.proofs.laws.sync_faults_have_offsets.Goals as goal

pub returns : goal.returns
returns c = sync_faults_have_offsets c.transaction_faults_have_offsets.ensures
