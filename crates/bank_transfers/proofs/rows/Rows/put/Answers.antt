use Rattle.std.proofs.Common.{Some, cond, eqb, ap, ◌∙◌}
use Rattle.bank_transfers.specs.Held.{RowsView}
use Rattle.bank_transfers.specs.TransfersView.{row_at}
use Rattle.bank_transfers.proofs.rows.Rows.put.Goals as goal

pub returns-clause-found : goal.returns-clause-found
returns-clause-found c id =
    (rw c.unwrap-before.ensures at c.insert-put.ensures.updates).0 id
    ∙ ap (λ (v : RowsView). cond (eqb c.args.row.id id) (Some c.args.row) (row_at v.rows id)) c.self.view_is
