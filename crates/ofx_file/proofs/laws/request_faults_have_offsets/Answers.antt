use Rattle.ofx_file.proofs.Within.{request_within}
use Rattle.ofx_file.proofs.laws.request_faults_have_offsets.Goals as goal

pub returns : goal.returns
returns c = request_within (record {
  statements = c.statement_faults_have_offsets.ensures;
  transactions = c.transaction_faults_have_offsets.ensures;
  syncs = c.sync_faults_have_offsets.ensures;
  signons = c.signon_faults_have_offsets.ensures;
})
