use Rattle.msg_sync.proofs.SyncDocuments.{transactions_printed, transactions_lawful}
use Rattle.msg_sync.proofs.SyncsBack.{transactions_back}
use Rattle.msg_sync.proofs.laws.transactions_read_back.Goals as goal

pub returns : goal.returns
returns c = record {
  written = transactions_printed c.deeds_read_back.ensures.written;
  lawful = transactions_lawful c.deeds_read_back.ensures.lawful c.mails_read_back.ensures.lawful;
  read = transactions_back c.deeds_read_back.ensures.read c.mails_read_back.ensures.read;
}
