use Rattle.bank_model.specs.DueRun.{run_length}
use Rattle.bank_invariants.proofs.laws.due.due_work_is_done.Goals as goal

pub returns : goal.returns
unfolding run_length
returns c = λ setup S at events run. run.ends
