use Rattle.ofx_file.proofs.Within.{reply_within}
use Rattle.ofx_file.proofs.laws.reply_faults_have_offsets.Goals as goal

pub returns : goal.returns
returns c = reply_within (record {
  statements = c.statement_reply_faults_have_offsets.ensures;
  transactions = c.transaction_reply_faults_have_offsets.ensures;
  syncs = c.sync_reply_faults_have_offsets.ensures;
  signons = c.signon_reply_faults_have_offsets.ensures;
})
