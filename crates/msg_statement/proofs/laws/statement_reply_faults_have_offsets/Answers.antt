use Rattle.msg_statement.proofs.Replies.{reply_within}
use Rattle.msg_statement.proofs.laws.statement_reply_faults_have_offsets.Goals as goal

pub returns : goal.returns
returns c = reply_within
