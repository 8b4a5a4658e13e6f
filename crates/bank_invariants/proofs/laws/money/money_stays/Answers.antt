use Rattle.bank_invariants.proofs.RunLaws.{books-sound, IsSoundState-run}
use Rattle.bank_invariants.proofs.laws.money.money_stays.Goals as goal

pub returns : goal.returns
returns c = λ setup run within legal. (books-sound setup _ within (IsSoundState-run setup run within legal)).money
