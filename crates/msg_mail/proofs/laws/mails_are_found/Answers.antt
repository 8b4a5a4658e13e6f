use Rattle.msg_mail.proofs.Mails.{mail_again, mail_found}
use Rattle.msg_mail.proofs.laws.mails_are_found.Goals as goal

pub returns : goal.returns
returns c = λ item trnuid deed. (mail_again item trnuid deed, mail_found item trnuid deed)
