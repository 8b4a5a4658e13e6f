use Rattle.msg_sync.proofs.Transactions.{transaction_faults_have_offsets}
use Rattle.msg_sync.proofs.laws.transaction_faults_have_offsets.Goals as goal

pub returns : goal.returns
returns c = transaction_faults_have_offsets c.deed_faults_have_offsets.ensures c.mail_faults_have_offsets.ensures
