use Rattle.std.proofs.Common.{ap, ◌∙◌}
use Rattle.bank_transfers.specs.Held.{RowsView}
use Rattle.bank_transfers.specs.TransfersView.{row_at}
use Rattle.bank_transfers.proofs.rows.Rows.reserve.Goals as goal

pub returns-clause-found : goal.returns-clause-found
returns-clause-found c id = c.reserve.ensures.entries.2 id ∙ ap (λ (v : RowsView). row_at v.rows id) c.self.view_is
