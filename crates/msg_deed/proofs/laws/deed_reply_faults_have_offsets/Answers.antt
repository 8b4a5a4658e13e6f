use Rattle.msg_deed.proofs.DeedReplies.{reply_within}
use Rattle.msg_deed.proofs.laws.deed_reply_faults_have_offsets.Goals as goal

pub returns : goal.returns
returns c = reply_within
