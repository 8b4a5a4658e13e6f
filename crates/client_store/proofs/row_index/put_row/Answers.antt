use Rattle.std.proofs.Common.{◌≡◌, true, false, sym, subst}
use Rattle.std.specs.List.{slice_get}
use Rattle.client_store.specs.RowForm.{all_seen}
use Rattle.client_store.specs.RowsView.{IsIndex, is_named}
use Rattle.client_store.proofs.Located.{put_there, put_between}
use Rattle.client_store.proofs.row_index.put_row.Goals as goal

-- the row takes the place of the one that has its id
pub returns-then-has_id_at-clause-rows : goal.returns-then-has_id_at-clause-rows
returns-then-has_id_at-clause-rows c =
    let index : IsIndex c.args.id (all_seen c.args.rows.now.items) c.index-at.result =
    subst (λ l. IsIndex c.args.id (all_seen l) c.index-at.result) c.deref.ensures.value c.index-at.ensures.index in
    let named : true ≡ is_named c.args.id (slice_get c.args.rows.now.items c.index-at.result) =
    subst (λ l. true ≡ is_named c.args.id (slice_get l c.index-at.result)) c.deref-2.ensures.value c.if-has_id_at.ensures.has in
    rw c.replace_at.ensures.rows (put_there c.args.id c.args.row c.args.rows.now.items c.index-at.result index (sym named))

-- the row goes between those below its id and those above it
pub returns-else-has_id_at-clause-rows : goal.returns-else-has_id_at-clause-rows
returns-else-has_id_at-clause-rows c =
    let index : IsIndex c.args.id (all_seen c.args.rows.now.items) c.index-at.result =
    subst (λ l. IsIndex c.args.id (all_seen l) c.index-at.result) c.deref.ensures.value c.index-at.ensures.index in
    let named : false ≡ is_named c.args.id (slice_get c.args.rows.now.items c.index-at.result) =
    subst (λ l. false ≡ is_named c.args.id (slice_get l c.index-at.result)) c.deref-2.ensures.value c.if-has_id_at.ensures.has in
    rw c.insert_into.ensures.rows (put_between c.args.id c.args.row c.args.rows.now.items c.index-at.result index (sym named))
