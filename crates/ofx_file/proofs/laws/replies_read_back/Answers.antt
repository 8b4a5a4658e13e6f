use Rattle.ofx_file.proofs.RepliesBack.{replies_read_back}
use Rattle.ofx_file.proofs.laws.replies_read_back.Goals as goal

pub returns : goal.returns
returns c = replies_read_back (record {
  headers = c.written_is_spelled.ensures;
  replies = c.replies_are_found.ensures;
  signons_written = c.signon_replies_read_back.ensures.written;
  signons_lawful = c.signon_replies_read_back.ensures.lawful;
  signons_read = c.signon_replies_read_back.ensures.read;
  statements_written = c.statement_replies_read_back.ensures.written;
  statements_lawful = c.statement_replies_read_back.ensures.lawful;
  statements_read = c.statement_replies_read_back.ensures.read;
  transactions_written = c.transaction_replies_read_back.ensures.written;
  transactions_lawful = c.transaction_replies_read_back.ensures.lawful;
  transactions_read = c.transaction_replies_read_back.ensures.read;
  syncs_written = c.sync_replies_read_back.ensures.written;
  syncs_lawful = c.sync_replies_read_back.ensures.lawful;
  syncs_read = c.sync_replies_read_back.ensures.read;
})
