use Rattle.msg_sync.proofs.SyncDocuments.{syncs_printed, syncs_lawful}
use Rattle.msg_sync.proofs.SyncsBack.{syncs_back}
use Rattle.msg_sync.proofs.laws.syncs_read_back.Goals as goal

pub returns : goal.returns
returns c = record {
  written = syncs_printed c.transactions_read_back.ensures.written;
  lawful = syncs_lawful c.transactions_read_back.ensures.lawful;
  read = syncs_back c.transactions_read_back.ensures.lawful c.transactions_read_back.ensures.read;
}
