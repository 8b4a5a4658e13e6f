use Rattle.ofx_header.proofs.Outcomes.{one_header}
use Rattle.ofx_header.proofs.laws.one_header.Goals as goal

pub returns : goal.returns
returns c = one_header
