use Rattle.ofx_values.proofs.PrintedLemmas.{amount_printed}
use Rattle.ofx_values.proofs.laws.printed_amount.Goals as goal

pub returns : goal.returns
returns c = amount_printed
