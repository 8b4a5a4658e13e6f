use Rattle.bank_invariants.proofs.DueLaws.{legal_due}
use Rattle.bank_invariants.proofs.laws.due.due_work_is_legal.Goals as goal

pub returns : goal.returns
returns c = legal_due
