use Rattle.event_codec.proofs.EventLaws.{faults_code_nothing}
use Rattle.event_codec.proofs.laws.faults_code_nothing.Goals as goal

pub returns : goal.returns
returns c = faults_code_nothing
