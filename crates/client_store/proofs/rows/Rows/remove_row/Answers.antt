use Rattle.std.proofs.Common.{sym, subst}
use Rattle.client_store.specs.RowForm.{all_seen, IsRising}
use Rattle.client_store.proofs.Ordered.{out_rising}
use Rattle.client_store.proofs.rows.Rows.remove_row.Goals as goal

pub invariant_of-self : goal.invariant_of-self
invariant_of-self c =
    subst (λ l. IsRising c.self.inside.family 0 l) (sym c.remove_row_by_id.ensures.rows)
    (out_rising c.self.inside.family 0 c.args.id (all_seen c.self.inside.items.items) c.self.invariant)
