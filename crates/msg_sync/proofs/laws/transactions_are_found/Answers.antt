use Rattle.msg_sync.proofs.Transactions.{transactions_are_found}
use Rattle.msg_sync.proofs.laws.transactions_are_found.Goals as goal

pub returns : goal.returns
returns c = transactions_are_found c.deeds_are_found.ensures c.mails_are_found.ensures
