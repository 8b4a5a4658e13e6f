use Rattle.std.proofs.Common.{◌≡◌, ℕ, false, ◌&&◌, eqb, List, Option, None, ap, subst}
use Rattle.std.specs.Prelude.{is_some}
use Rattle.ofx_types.specs.declared.number.Day.{Day}
use Rattle.ofx_types.specs.declared.recurring.ModelRow.{ModelRow}
use Rattle.bank_model.specs.declared.entry.Entry.{Entry}
use Rattle.bank_model.specs.Models.{model_of, next_occurrence}
use Rattle.bank_model.specs.Due.{date_if_any, date_to_make}
use Rattle.bank_ledger.specs.LedgerView.{LedgerView}
use Rattle.bank_ledger.proofs.ledger.Ledger.makes.Goals as goal

none_makes : (last : Day) (id occurrence : ℕ) (entries : List Entry) → None ≡ model_of id entries → false ≡ (is_some (date_to_make last id entries) && eqb occurrence (next_occurrence id entries))
unfolding date_to_make
none_makes last id occurrence entries none =
    ap (λ (found : Option ModelRow). is_some (date_if_any last id entries found) && eqb occurrence (next_occurrence id entries)) none

pub returns-in-None : goal.returns-in-None
returns-in-None c =
    subst (λ (v : LedgerView). false ≡ (is_some (date_to_make c.args.last c.args.id v.state.entries) && eqb c.args.occurrence (next_occurrence c.args.id v.state.entries))) c.self.view_is
    (none_makes c.args.last c.args.id c.args.occurrence c.self.inside.history.entries (c.in-None.ensures.represented c.self.inside.history.entries c.self.invariant.1))
