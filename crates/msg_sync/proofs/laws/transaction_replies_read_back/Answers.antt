use Rattle.msg_sync.proofs.SyncDocuments.{answers_lawful}
use Rattle.msg_sync.proofs.SyncRepliesBack.{answers_back}
use Rattle.msg_sync.proofs.laws.transaction_replies_read_back.Goals as goal

pub returns : goal.returns
returns c = record {
  written = c.deed_replies_read_back.ensures.written;
  lawful = answers_lawful c.deed_replies_read_back.ensures.lawful c.mail_replies_read_back.ensures.lawful;
  read = answers_back c.deed_replies_read_back.ensures.read c.mail_replies_read_back.ensures.read;
}
