use Rattle.msg_mail.proofs.SignonReplies.{signon_reply_within}
use Rattle.msg_mail.proofs.laws.signon_reply_faults_have_offsets.Goals as goal

pub returns : goal.returns
returns c = signon_reply_within c.status_faults_have_offsets.ensures
