use Rattle.ofx_header.proofs.Outcomes.{spelled_is_faultless}
use Rattle.ofx_header.proofs.laws.spelled_is_faultless.Goals as goal

pub returns : goal.returns
returns c = spelled_is_faultless
