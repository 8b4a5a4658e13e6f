use Rattle.msg_mail.proofs.Mails.{mail_within}
use Rattle.msg_mail.proofs.laws.mail_faults_have_offsets.Goals as goal

pub returns : goal.returns
returns c = mail_within
