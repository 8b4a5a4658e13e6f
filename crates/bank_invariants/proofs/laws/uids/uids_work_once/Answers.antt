use Rattle.bank_invariants.proofs.RunLaws.{IsSoundState-run}
use Rattle.bank_invariants.proofs.laws.uids.uids_work_once.Goals as goal

pub returns : goal.returns
returns c = λ setup run within legal. (IsSoundState-run setup run within legal).used
