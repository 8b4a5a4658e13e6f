use Rattle.bank_invariants.proofs.Unnamed.{unnamed_stays}
use Rattle.bank_invariants.proofs.laws.money.unnamed_accounts_stay.Goals as goal

pub returns : goal.returns
returns c = unnamed_stays
