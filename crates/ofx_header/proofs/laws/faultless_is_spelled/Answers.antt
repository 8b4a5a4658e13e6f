use Rattle.ofx_header.proofs.Outcomes.{faultless_is_spelled}
use Rattle.ofx_header.proofs.laws.faultless_is_spelled.Goals as goal

pub returns : goal.returns
returns c = faultless_is_spelled
