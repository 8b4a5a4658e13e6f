use Rattle.ofx_tape.proofs.FaultLaws.{spelled_has_no_fault}
use Rattle.ofx_tape.proofs.laws.spelled_tags_have_no_fault.Goals as goal

pub returns : goal.returns
returns c = spelled_has_no_fault
