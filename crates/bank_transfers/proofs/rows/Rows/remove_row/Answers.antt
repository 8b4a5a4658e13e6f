use Rattle.std.proofs.Common.{None, cond, eqb, ap, ◌∙◌}
use Rattle.bank_transfers.specs.Held.{RowsView}
use Rattle.bank_transfers.specs.TransfersView.{row_at}
use Rattle.bank_transfers.proofs.rows.Rows.remove_row.Goals as goal

pub returns-clause-found : goal.returns-clause-found
returns-clause-found c other =
    c.remove-gone.ensures.updates.0 other ∙ ap (λ (v : RowsView). cond (eqb c.args.id other) None (row_at v.rows other)) c.self.view_is
