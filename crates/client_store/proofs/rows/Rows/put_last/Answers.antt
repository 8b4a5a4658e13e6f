use Rattle.std.proofs.Common.{◌≡◌, true, ap, sym, ◌∙◌, subst}
use Rattle.bank_model.specs.Stores.{mail_row}
use Rattle.client_store.specs.RowForm.{all_seen, is_of, IsRising}
use Rattle.client_store.specs.RowsView.{HeldRows}
use Rattle.client_store.proofs.Located.{last_kept}
use Rattle.client_store.proofs.rows.Rows.put_last.Goals as goal

pub invariant_of-self : goal.invariant_of-self
invariant_of-self c =
    let family_is = ap (λ (held : HeldRows). held.family) c.self.view_is in
    let kind : is_of c.self.inside.family (mail_row c.args.row) ≡ true =
    ap (λ family. is_of family (mail_row c.args.row)) family_is ∙ c.requires.kind in
    subst (λ l. IsRising c.self.inside.family 0 (all_seen l)) (sym c.push_reserved.ensures.items)
    (last_kept c.self.inside.family 0 c.self.inside.items.items c.args.row c.self.invariant kind)
