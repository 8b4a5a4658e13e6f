use Rattle.ofx_values.proofs.DateLemmas.{date_once}
use Rattle.ofx_values.proofs.laws.one_moment.Goals as goal

pub returns : goal.returns
returns c = date_once
