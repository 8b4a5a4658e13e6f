use Rattle.msg_mail.proofs.MailDocuments.{mail_replies_lawful}
use Rattle.msg_mail.proofs.MailRepliesBack.{mail_replies_back, mail_replies_alone}
use Rattle.msg_mail.proofs.laws.mail_replies_read_back.Goals as goal

pub returns : goal.returns
returns c =
    let written = c.deed_replies_are_documents.ensures in
    record { written = written; lawful = mail_replies_lawful; read = mail_replies_back; alone = mail_replies_alone written }
