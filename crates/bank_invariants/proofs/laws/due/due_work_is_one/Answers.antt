use Rattle.bank_invariants.proofs.DueLaws.{one_run}
use Rattle.bank_invariants.proofs.laws.due.due_work_is_one.Goals as goal

pub returns : goal.returns
returns c = one_run
