use Rattle.msg_parts.proofs.Statuses.{status_within}
use Rattle.msg_parts.proofs.laws.status_faults_have_offsets.Goals as goal

pub returns : goal.returns
returns c = status_within
