use Rattle.bank_invariants.proofs.RunLaws.{books-sound, IsSoundState-run}
use Rattle.bank_invariants.proofs.laws.states.books_are_right.Goals as goal

pub returns-clause-state : goal.returns-clause-state
returns-clause-state c = books-sound

pub returns-clause-run : goal.returns-clause-run
returns-clause-run c = λ setup run within legal. books-sound setup _ within (IsSoundState-run setup run within legal)
