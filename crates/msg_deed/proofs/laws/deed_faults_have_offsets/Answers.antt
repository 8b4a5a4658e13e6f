use Rattle.msg_deed.proofs.Deeds.{deed_within}
use Rattle.msg_deed.proofs.laws.deed_faults_have_offsets.Goals as goal

pub returns : goal.returns
returns c = deed_within
