use Rattle.bank_invariants.proofs.RunLaws.{IsSoundState-run}
use Rattle.bank_invariants.proofs.laws.states.entries_are_few.Goals as goal

pub returns : goal.returns
returns c = λ setup run within legal. (IsSoundState-run setup run within legal).few
