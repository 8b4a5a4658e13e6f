use Rattle.ofx_header.proofs.Outcomes.{body_is_after}
use Rattle.ofx_header.proofs.laws.body_is_after.Goals as goal

pub returns : goal.returns
returns c = body_is_after
