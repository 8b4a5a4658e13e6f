use Rattle.std.proofs.Common.{◌≡◌, Some, sym, ◌∙◌, ap}
use Rattle.ofx_types.specs.TextRules.{trimmed}
use Rattle.ofx_types.specs.DateReading.{moment_at}
use Rattle.ofx_values.proofs.DateLemmas.{date_takes, date_none}
use Rattle.ofx_values.proofs.date.read_moment.Goals as goal

read : (c : goal.In-Some) → moment_at (trimmed c.args.raw.now) ≡ Some c.in-Some.moment.0
read c = ap moment_at (sym c.trim.ensures) ∙ c.in-Some.ensures

pub returns-in-Some-clause-found : goal.returns-in-Some-clause-found
returns-in-Some-clause-found c = date_takes c.args.raw.now c.in-Some.moment.0 (read c)

pub returns-in-Some-clause-range : goal.returns-in-Some-clause-range
returns-in-Some-clause-range c = (date_takes c.args.raw.now c.in-Some.moment.0 (read c)).is_moment

pub returns-in-None-clause-nothing : goal.returns-in-None-clause-nothing
returns-in-None-clause-nothing c = date_none c.args.raw.now (ap moment_at (sym c.trim.ensures) ∙ c.in-None.ensures)
