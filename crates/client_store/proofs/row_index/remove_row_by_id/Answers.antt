use Rattle.std.proofs.Common.{◌≡◌, true, false, sym, subst}
use Rattle.std.specs.List.{slice_get}
use Rattle.client_store.specs.RowForm.{all_seen}
use Rattle.client_store.specs.RowsView.{IsIndex, is_named}
use Rattle.client_store.proofs.Located.{out_there, out_nowhere}
use Rattle.client_store.proofs.row_index.remove_row_by_id.Goals as goal

-- no other row has the id of the one that is taken out
pub returns-then-has_id_at-clause-rows : goal.returns-then-has_id_at-clause-rows
returns-then-has_id_at-clause-rows c =
    let index : IsIndex c.args.id (all_seen c.args.rows.now.items) c.index-at.result =
    subst (λ l. IsIndex c.args.id (all_seen l) c.index-at.result) c.deref.ensures.value c.index-at.ensures.index in
    let named : true ≡ is_named c.args.id (slice_get c.args.rows.now.items c.index-at.result) =
    subst (λ l. true ≡ is_named c.args.id (slice_get l c.index-at.result)) c.deref-2.ensures.value c.if-has_id_at.ensures.has in
    rw c.remove.ensures.items
    (out_there c.args.family c.args.id 0 c.args.rows.now.items c.index-at.result c.requires.rising index (sym named))

-- no row has the id
pub returns-else-has_id_at-clause-rows : goal.returns-else-has_id_at-clause-rows
returns-else-has_id_at-clause-rows c =
    let index : IsIndex c.args.id (all_seen c.args.rows.now.items) c.index-at.result =
    subst (λ l. IsIndex c.args.id (all_seen l) c.index-at.result) c.deref.ensures.value c.index-at.ensures.index in
    let named : false ≡ is_named c.args.id (slice_get c.args.rows.now.items c.index-at.result) =
    subst (λ l. false ≡ is_named c.args.id (slice_get l c.index-at.result)) c.deref-2.ensures.value c.if-has_id_at.ensures.has in
    out_nowhere c.args.family c.args.id 0 c.args.rows.now.items c.index-at.result c.requires.rising index (sym named)
