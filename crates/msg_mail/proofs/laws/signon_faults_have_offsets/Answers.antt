use Rattle.msg_mail.proofs.Signons.{signon_within}
use Rattle.msg_mail.proofs.laws.signon_faults_have_offsets.Goals as goal

pub returns : goal.returns
returns c = signon_within
