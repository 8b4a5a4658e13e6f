use Rattle.std.proofs.lemmas.Result.{IfOk-at_ok}
use Rattle.bank_history.proofs.history.set_last.Goals as goal

pub returns-clause-numbers : goal.returns-clause-numbers
returns-clause-numbers c other = (IfOk-at_ok _ c.unwrap-before.ensures c.insert-set.ensures.updates).0 other
