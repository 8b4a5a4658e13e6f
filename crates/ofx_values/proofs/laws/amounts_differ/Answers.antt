use Rattle.ofx_values.proofs.PrintedLemmas.{amounts_apart}
use Rattle.ofx_values.proofs.laws.amounts_differ.Goals as goal

pub returns : goal.returns
returns c = amounts_apart
