use Rattle.bank_invariants.proofs.RunLaws.{IsSoundState-run}
use Rattle.bank_invariants.proofs.laws.files.files_are_kept_once.Goals as goal

pub returns : goal.returns
returns c = λ setup run within legal. (IsSoundState-run setup run within legal).kept
