use Rattle.ofx_file.proofs.RequestsBack.{files_read_back}
use Rattle.ofx_file.proofs.laws.files_read_back.Goals as goal

pub returns : goal.returns
returns c = files_read_back (record {
  headers = c.written_is_spelled.ensures;
  requests = c.requests_are_found.ensures;
  signons_written = c.signons_read_back.ensures.written;
  signons_lawful = c.signons_read_back.ensures.lawful;
  signons_read = c.signons_read_back.ensures.read;
  statements_written = c.statements_read_back.ensures.written;
  statements_lawful = c.statements_read_back.ensures.lawful;
  statements_read = c.statements_read_back.ensures.read;
  transactions_written = c.transactions_read_back.ensures.written;
  transactions_lawful = c.transactions_read_back.ensures.lawful;
  transactions_read = c.transactions_read_back.ensures.read;
  syncs_written = c.syncs_read_back.ensures.written;
  syncs_lawful = c.syncs_read_back.ensures.lawful;
  syncs_read = c.syncs_read_back.ensures.read;
})
