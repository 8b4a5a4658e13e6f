use Rattle.std.proofs.Common.{◌∙◌, ap}
use Rattle.bank_shared.proofs.Begun.{first_pass}
use Rattle.bank_shared.proofs.bank.Bank.begin.Goals as goal

pub invariant_of-bank : goal.invariant_of-bank
invariant_of-bank g c = (
  c.into_fields-setup.ensures.setup ∙ c.into_parts-parts.ensures.setup,
  c.into_fields-setup.ensures.board ∙ c.into_parts-parts.ensures.board,
  c.into_parts-parts.ensures.within,
  (c.into_parts-parts.ensures.holds.records, c.into_parts-parts.ensures.holds.reopens),
  c.into_parts-parts.ensures.begins,
  ap (λ r. r.tables) c.into_fields-setup.ensures.row ∙ c.into_parts-parts.ensures.row,
  c.into_parts-parts.ensures.count,
)

pub returns-clause-pass : goal.returns-clause-pass
returns-clause-pass g c = first_pass g.N.BankName.setup g.N.BankName.opening g.N.BankName.board _ c.into_parts-parts.ensures.pass
