use Rattle.std.proofs.lemmas.Fmt.{decimal_injective}
use Rattle.ofx_values.proofs.laws.numbers_differ.Goals as goal

pub returns : goal.returns
returns c = decimal_injective
