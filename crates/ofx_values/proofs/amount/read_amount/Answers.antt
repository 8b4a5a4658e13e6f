use Rattle.std.proofs.Common.{sym, ◌∙◌, ap}
use Rattle.ofx_types.specs.AmountReading.{amount_at}
use Rattle.ofx_values.proofs.AmountLemmas.{amount_takes, amount_none}
use Rattle.ofx_values.proofs.amount.read_amount.Goals as goal

pub returns-in-Some-clause-found : goal.returns-in-Some-clause-found
returns-in-Some-clause-found c = amount_takes c.args.raw.now c.in-Some.cents.0 (ap amount_at (sym c.trim.ensures) ∙ c.in-Some.ensures)

pub returns-in-None-clause-nothing : goal.returns-in-None-clause-nothing
returns-in-None-clause-nothing c = amount_none c.args.raw.now (ap amount_at (sym c.trim.ensures) ∙ c.in-None.ensures)
