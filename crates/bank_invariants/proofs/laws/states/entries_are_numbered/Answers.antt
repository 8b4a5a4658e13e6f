use Rattle.bank_invariants.proofs.RunLaws.{IsSoundState-run}
use Rattle.bank_invariants.proofs.laws.states.entries_are_numbered.Goals as goal

pub returns : goal.returns
returns c = λ setup run k d within legal below. (IsSoundState-run setup run within legal).numbered k d below
