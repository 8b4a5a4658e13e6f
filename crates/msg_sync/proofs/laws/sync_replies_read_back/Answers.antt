use Rattle.msg_sync.proofs.SyncDocuments.{sync_replies_printed, sync_replies_lawful}
use Rattle.msg_sync.proofs.SyncRepliesBack.{sync_replies_back}
use Rattle.msg_sync.proofs.laws.sync_replies_read_back.Goals as goal

pub returns : goal.returns
returns c = record {
  written = sync_replies_printed c.transaction_replies_read_back.ensures.written;
  lawful = sync_replies_lawful c.transaction_replies_read_back.ensures.lawful;
  read = sync_replies_back c.transaction_replies_read_back.ensures.lawful c.transaction_replies_read_back.ensures.read;
}
