use Rattle.std.proofs.Common.{◌≡◌, true, ap, sym, ◌∙◌, subst, arith}
use Rattle.client_store.specs.RowForm.{seen, all_seen, is_of, IsRising}
use Rattle.client_store.specs.RowsView.{HeldRows}
use Rattle.client_store.proofs.Ordered.{put_rising}
use Rattle.client_store.proofs.rows.Rows.put.Goals as goal

pub invariant_of-self : goal.invariant_of-self
invariant_of-self c =
    let family_is = ap (λ (held : HeldRows). held.family) c.self.view_is in
    let kind : is_of c.self.inside.family (seen c.args.row) ≡ true =
    ap (λ family. is_of family (seen c.args.row)) family_is ∙ c.requires.kind in
    subst (λ l. IsRising c.self.inside.family 0 l) (sym c.put_row.ensures.rows)
    (put_rising c.self.inside.family c.args.id (seen c.args.row) kind c.requires.id 0 (all_seen c.self.inside.items.items) (omega arith) c.self.invariant)
