use Rattle.msg_mail.proofs.MailReplies.{reply_again, reply_found}
use Rattle.msg_mail.proofs.laws.mail_replies_are_found.Goals as goal

pub returns : goal.returns
returns c = λ item reply. (reply_again item reply, reply_found item reply)
