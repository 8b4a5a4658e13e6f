use Rattle.msg_sync.proofs.Transactions.{answers_are_found}
use Rattle.msg_sync.proofs.laws.transaction_replies_are_found.Goals as goal

pub returns : goal.returns
returns c = answers_are_found c.deed_replies_are_found.ensures c.mail_replies_are_found.ensures
