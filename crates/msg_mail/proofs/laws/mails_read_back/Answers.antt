use Rattle.msg_mail.proofs.MailDocuments.{mails_lawful}
use Rattle.msg_mail.proofs.MailsBack.{mails_back, mails_alone}
use Rattle.msg_mail.proofs.laws.mails_read_back.Goals as goal

pub returns : goal.returns
returns c =
    let written = c.deeds_are_documents.ensures in
    record { written = written; lawful = mails_lawful; read = mails_back; alone = mails_alone written }
