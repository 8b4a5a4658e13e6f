use Rattle.msg_sync.proofs.Transactions.{answer_faults_have_offsets}
use Rattle.msg_sync.proofs.laws.transaction_reply_faults_have_offsets.Goals as goal

pub returns : goal.returns
returns c = answer_faults_have_offsets c.deed_reply_faults_have_offsets.ensures c.mail_reply_faults_have_offsets.ensures
