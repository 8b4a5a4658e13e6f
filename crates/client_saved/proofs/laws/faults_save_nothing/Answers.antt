use Rattle.client_saved.proofs.StateLaws.{faults_save_nothing}
use Rattle.client_saved.proofs.laws.faults_save_nothing.Goals as goal

pub returns : goal.returns
returns c = faults_save_nothing
