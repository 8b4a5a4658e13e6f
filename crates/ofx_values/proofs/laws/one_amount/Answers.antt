use Rattle.ofx_values.proofs.AmountLemmas.{amount_once}
use Rattle.ofx_values.proofs.laws.one_amount.Goals as goal

pub returns : goal.returns
returns c = amount_once
