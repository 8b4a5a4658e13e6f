use Rattle.msg_mail.proofs.SignonRepliesBack.{replies_printed, replies_lawful, replies_back}
use Rattle.msg_mail.proofs.laws.signon_replies_read_back.Goals as goal

pub returns : goal.returns
returns c =
    let statuses = c.statuses_read_back.ensures in
    record {
      written = replies_printed statuses.written;
      lawful = replies_lawful statuses.lawful;
      read = replies_back statuses.lawful statuses.read;
    }
