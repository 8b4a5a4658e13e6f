use Rattle.client_run.proofs.GoingOn.{goes_on_from}
use Rattle.client_run.proofs.laws.runs_go_on.Goals as goal

pub returns : goal.returns
returns c = goes_on_from c.one_state.ensures c.faults_save_nothing.ensures
