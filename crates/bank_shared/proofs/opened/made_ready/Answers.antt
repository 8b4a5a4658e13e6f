use Rattle.std.proofs.Common.{◌∙◌}
use Rattle.bank_shared.proofs.opened.made_ready.Goals as goal

pub returns-clause-row : goal.returns-clause-row
returns-clause-row g c = c.in_ok-row.ensures ∙ c.requires.accounts.own
