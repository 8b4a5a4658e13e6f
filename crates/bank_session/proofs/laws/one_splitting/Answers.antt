use Rattle.bank_session.proofs.StatusLemmas.{one_split}
use Rattle.bank_session.proofs.laws.one_splitting.Goals as goal

pub returns : goal.returns
returns c = one_split
