use Rattle.msg_mail.proofs.MailReplies.{reply_within}
use Rattle.msg_mail.proofs.laws.mail_reply_faults_have_offsets.Goals as goal

pub returns : goal.returns
returns c = reply_within
