use Rattle.ofx_values.proofs.PrintedLemmas.{moment_printed}
use Rattle.ofx_values.proofs.laws.printed_moment.Goals as goal

pub returns : goal.returns
returns c = moment_printed
