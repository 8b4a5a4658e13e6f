use Rattle.std.proofs.lemmas.Result.{IfOk-at_ok}
use Rattle.bank_transfers.proofs.postings.set_index.Goals as goal

pub returns-clause-indices : goal.returns-clause-indices
returns-clause-indices c other = (IfOk-at_ok _ c.unwrap-before.ensures c.insert-set.ensures.updates).0 other
