use Rattle.ofx_file.proofs.ReplyLaws.{replies_are_found}
use Rattle.ofx_file.proofs.laws.replies_are_found.Goals as goal

pub returns : goal.returns
returns c = replies_are_found (record {
  statements = c.statement_replies_are_found.ensures;
  transactions = c.transaction_replies_are_found.ensures;
  syncs = c.sync_replies_are_found.ensures;
  signons = c.signon_replies_are_found.ensures;
})
