use Rattle.ofx_values.proofs.PrintedLemmas.{moments_apart}
use Rattle.ofx_values.proofs.laws.moments_differ.Goals as goal

pub returns : goal.returns
returns c = moments_apart
