-- The place of an id among rows that are in order: how a search finds it, and what is done at it.
use Rattle.std.proofs.Common.{◌≡◌, ℕ, zero, suc, ◌<◌, ◌≤◌, Bool, true, false, not, cond, List, [], ◌∷◌, ◌++◌, length, fold, map, set, get_or, Option, None, Some, option_map, refl, sym, ap, ◌∙◌, arith}
use Rattle.std.specs.List.{find, insert, remove, slice_get}
use Rattle.std.specs.List.Sorted.{IsPartitionedBy, IsPartitionPoint}
use Rattle.std.proofs.lemmas.Bool.{ltb-true, lt-ltb, leb-true}
use Rattle.ofx_types.specs.declared.transfer.Family.{Family}
use Rattle.ofx_types.specs.declared.transfer.Family.TheVariants.{Intra, RecIntra, BankMail, Mail}
use Rattle.bank_model.specs.Stores as model
use Rattle.bank_model.specs.Stores.{transfer_row, model_row, mail_row, id_of, is_id, has_id, is_less, is_below, put, remove_row, model_if_named, model_among}
use Rattle.ofx_types.specs.declared.mail.MailRow.{MailRow}
use Rattle.client_store.specs.declared.row.Row.{Row}
use Rattle.client_store.specs.declared.row.Row.TheVariants as variants
use Rattle.client_store.specs.RowForm.{seen, all_seen, is_of, is_from, bound_after, IsRising}
use Rattle.client_store.specs.RowsView.{IsIndex, is_named, model_in, row_in}
use Rattle.client_store.proofs.Ordered.{no_true, not_here, follows, over_own, over_greater, follows_kind, follows_from, Lacks, rising_lacks, lacks_stay, lacks_model, other_model}

-- ---- a search finds the place

-- whether the rows of a family have ids
abbrev has_ids : Family → Bool
has_ids Intra = true
has_ids RecIntra = true
has_ids BankMail = false
has_ids Mail = false

abbrev is_there : Option ℕ → Bool
is_there None = false
is_there (Some own) = true

family_ids : (family : Family) (row : model.Row) → is_of family row ≡ true → is_there (id_of row) ≡ has_ids family
family_ids Intra (transfer_row row) is = refl
family_ids Intra (model_row row) is = absurd (no_true is)
family_ids Intra (mail_row row) is = absurd (no_true is)
family_ids RecIntra (transfer_row row) is = absurd (no_true is)
family_ids RecIntra (model_row row) is = refl
family_ids RecIntra (mail_row row) is = absurd (no_true is)
family_ids BankMail (transfer_row row) is = absurd (no_true is)
family_ids BankMail (model_row row) is = absurd (no_true is)
family_ids BankMail (mail_row row) is = refl
family_ids Mail (transfer_row row) is = absurd (no_true is)
family_ids Mail (model_row row) is = absurd (no_true is)
family_ids Mail (mail_row row) is = refl

module _ (family : Family) (id : ℕ) where
  over : (bound : ℕ) (own : Option ℕ) → is_there own ≡ true → is_from bound own ≡ true → is_less id own ≡ true → bound < id
  over bound None there from less = absurd (no_true there)
  over bound (Some own) there from less =
      let le = leb-true bound own from in let lt = ltb-true own id less in omega (arith, le, lt)

  grown : (bound : ℕ) (own : Option ℕ) → is_from bound own ≡ true → bound_after bound own < id → bound < id
  grown bound None from lt = lt
  grown bound (Some own) from lt =
      let le = leb-true bound own from in
      let less : suc own < id = lt in omega (arith, le, less)

  -- where a row is below an id, so is the bound
  bound_below : (bound : ℕ) (rows : List Row) → IsRising family bound (all_seen rows) → has_ids family ≡ true → (j : ℕ) (d : Row) → j < length rows
      → is_below id (seen (get_or rows j d)) ≡ true → bound < id
  bound_below bound [] rising ids j d lt below = absurd (omega (arith, lt))
  bound_below bound (row ∷ more) rising ids zero d lt below =
      over bound (id_of (seen row)) (family_ids family (seen row) (follows_kind family bound (seen row) rising.0) ∙ ids)
      (follows_from family bound (seen row) rising.0) below
  bound_below bound (row ∷ more) rising ids (suc j) d lt below =
      grown bound (id_of (seen row)) (follows_from family bound (seen row) rising.0)
      (bound_below (bound_after bound (id_of (seen row))) more rising.1 ids j d (omega (arith, lt)) below)

  below_first : (bound : ℕ) (own : Option ℕ) → (is_there own ≡ true → bound_after bound own < id) → is_less id own ≡ true
  below_first bound None lt = refl
  below_first bound (Some own) lt = let less : suc own < id = lt refl in lt-ltb own id (omega (arith, less))

  pub parted : (bound : ℕ) (rows : List Row) → IsRising family bound (all_seen rows) → IsPartitionedBy (λ row. is_below id (seen row)) rows
  parted bound [] rising i j d le lt below = absurd (omega (arith, lt))
  parted bound (row ∷ more) rising zero zero d le lt below = below
  parted bound (row ∷ more) rising (suc i) zero d le lt below = absurd (omega (arith, le))
  parted bound (row ∷ more) rising zero (suc j) d le lt below =
      below_first bound (id_of (seen row))
      (λ there. bound_below (bound_after bound (id_of (seen row))) more rising.1
      (sym (family_ids family (seen row) (follows_kind family bound (seen row) rising.0)) ∙ there) j d (omega (arith, lt)) below)
  parted bound (row ∷ more) rising (suc i) (suc j) d le lt below =
      parted (bound_after bound (id_of (seen row))) more rising.1 i j d (omega (arith, le)) (omega (arith, lt)) below

pub located : (id : ℕ) (rows : List Row) (at : ℕ) → at ≤ length rows
    → IsPartitionPoint (λ row. is_below id (seen row) ≡ true) (λ row. is_below id (seen row) ≡ false) rows at → IsIndex id (all_seen rows) at
located id [] zero le point = tt
located id [] (suc at) le point = absurd (omega (arith, le))
located id (row ∷ more) zero le point = point.1 0 row (omega arith) (omega arith)
located id (row ∷ more) (suc at) le point = (
  point.0 0 row (omega arith) (omega arith),
  located id more at (omega (arith, le))
      ((λ k d low lt. point.0 (suc k) d (omega arith) (omega (arith, lt))), (λ k d low lt. point.1 (suc k) d (omega (arith, low)) (omega (arith, lt)))),
)

-- whether the row at a place has an id
abbrev pub is_at : ℕ → List Row → ℕ → Bool
is_at id rows at = is_named id (slice_get rows at)

-- ---- what is done at the place

past : (id : ℕ) (row first : model.Row) (more : List model.Row) → is_below id first ≡ true → put id row (first ∷ more) ≡ first ∷ put id row more
unfolding put
past id row first more below =
    ap (λ b. cond b (row ∷ more) (cond (is_below id first) (first ∷ put id row more) (row ∷ first ∷ more))) (not_here id (id_of first) below)
    ∙ ap (λ b. cond b (first ∷ put id row more) (row ∷ first ∷ more)) below

pub put_there : (id : ℕ) (row : Row) (rows : List Row) (at : ℕ) → IsIndex id (all_seen rows) at → is_at id rows at ≡ true
    → all_seen (set rows at row) ≡ put id (seen row) (all_seen rows)
unfolding put
put_there id row [] at index there = absurd (no_true there)
put_there id row (first ∷ more) zero index there =
    sym (ap (λ b. cond b (seen row ∷ all_seen more) (cond (is_below id (seen first)) (seen first ∷ put id (seen row) (all_seen more))
    (seen row ∷ seen first ∷ all_seen more))) there)
put_there id row (first ∷ more) (suc at) index there =
    ap (λ l. seen first ∷ l) (put_there id row more at index.1 there) ∙ sym (past id (seen row) (seen first) (all_seen more) index.0)

pub put_between : (id : ℕ) (row : Row) (rows : List Row) (at : ℕ) → IsIndex id (all_seen rows) at → is_at id rows at ≡ false
    → all_seen (insert rows at row) ≡ put id (seen row) (all_seen rows)
unfolding put
put_between id row [] zero index there = refl
put_between id row [] (suc at) index there = absurd index
put_between id row (first ∷ more) zero index there =
    sym (ap (λ b. cond b (seen row ∷ all_seen more) (cond (is_below id (seen first)) (seen first ∷ put id (seen row) (all_seen more))
    (seen row ∷ seen first ∷ all_seen more))) there
    ∙ ap (λ b. cond b (seen first ∷ put id (seen row) (all_seen more)) (seen row ∷ seen first ∷ all_seen more)) index)
put_between id row (first ∷ more) (suc at) index there =
    ap (λ l. seen first ∷ l) (put_between id row more at index.1 there) ∙ sym (past id (seen row) (seen first) (all_seen more) index.0)

stays : (id : ℕ) (row : model.Row) (more : List model.Row) → has_id id row ≡ false → remove_row id (row ∷ more) ≡ row ∷ remove_row id more
stays id row more other = ap (λ b. cond (not b) (row ∷ remove_row id more) (remove_row id more)) other

module _ (family : Family) (id : ℕ) where
  pub out_there : (bound : ℕ) (rows : List Row) (at : ℕ) → IsRising family bound (all_seen rows) → IsIndex id (all_seen rows) at
      → is_at id rows at ≡ true → all_seen (remove rows at) ≡ remove_row id (all_seen rows)
  out_there bound [] at rising index there = absurd (no_true there)
  out_there bound (row ∷ more) zero rising index there =
      sym (ap (λ b. cond (not b) (seen row ∷ remove_row id (all_seen more)) (remove_row id (all_seen more))) there
      ∙ lacks_stay id (all_seen more) (rising_lacks family (bound_after bound (id_of (seen row))) id (all_seen more) rising.1
      (over_own id bound (id_of (seen row)) there)))
  out_there bound (row ∷ more) (suc at) rising index there =
      ap (λ l. seen row ∷ l) (out_there (bound_after bound (id_of (seen row))) more at rising.1 index.1 there)
      ∙ sym (stays id (seen row) (all_seen more) (not_here id (id_of (seen row)) index.0))

  pub out_nowhere : (bound : ℕ) (rows : List Row) (at : ℕ) → IsRising family bound (all_seen rows) → IsIndex id (all_seen rows) at
      → is_at id rows at ≡ false → all_seen rows ≡ remove_row id (all_seen rows)
  out_nowhere bound [] at rising index there = refl
  out_nowhere bound (row ∷ more) zero rising index there =
      sym (stays id (seen row) (all_seen more) there
      ∙ ap (λ l. seen row ∷ l) (lacks_stay id (all_seen more) (rising_lacks family (bound_after bound (id_of (seen row))) id (all_seen more) rising.1
      (over_greater id bound (id_of (seen row)) index))))
  out_nowhere bound (row ∷ more) (suc at) rising index there =
      ap (λ l. seen row ∷ l) (out_nowhere (bound_after bound (id_of (seen row))) more at rising.1 index.1 there)
      ∙ sym (stays id (seen row) (all_seen more) (not_here id (id_of (seen row)) index.0))

  after_lacks : (bound : ℕ) (row : Row) (more : List Row) → IsRising family (bound_after bound (id_of (seen row))) (all_seen more)
      → is_below id (seen row) ≡ false → (found : ℕ) → fold (model_if_named id) found (all_seen more) ≡ found
  after_lacks bound row more rising index found =
      lacks_model id found (all_seen more) (rising_lacks family (bound_after bound (id_of (seen row))) id (all_seen more) rising
      (over_greater id bound (id_of (seen row)) index))

  pub model_there : (bound : ℕ) (rows : List Row) (at : ℕ) → IsRising family bound (all_seen rows) → IsIndex id (all_seen rows) at
      → model_among id (all_seen rows) ≡ model_in id (slice_get rows at)
  model_there bound [] at rising index = refl
  model_there bound (row ∷ more) zero rising index = after_lacks bound row more rising.1 index (model_if_named id 0 (seen row))
  model_there bound (row ∷ more) (suc at) rising index =
      ap (λ f. fold (model_if_named id) f (all_seen more)) (other_model id 0 (seen row) (not_here id (id_of (seen row)) index.0))
      ∙ model_there (bound_after bound (id_of (seen row))) more at rising.1 index.1

  pub none_there : (rows : List model.Row) → Lacks id rows → find (has_id id) rows ≡ None
  none_there [] lacks = refl
  none_there (row ∷ more) lacks = ap (λ b. cond b (Some row) (find (has_id id) more)) lacks.0 ∙ none_there more lacks.1

  -- where the row at the place hasn't got the id, none after it has
  first_row : (bound : ℕ) (row : Row) (more : List Row) → IsRising family bound (all_seen (row ∷ more)) → is_below id (seen row) ≡ false
      → (here : Bool) → has_id id (seen row) ≡ here
      → cond here (Some (seen row)) (find (has_id id) (all_seen more)) ≡ option_map seen (cond here (Some row) None)
  first_row bound row more rising index true is = refl
  first_row bound row more rising index false is =
      none_there (all_seen more) (rising_lacks family (bound_after bound (id_of (seen row))) id (all_seen more) rising.1
      (over_greater id bound (id_of (seen row)) index))

  pub row_there : (bound : ℕ) (rows : List Row) (at : ℕ) → IsRising family bound (all_seen rows) → IsIndex id (all_seen rows) at
      → find (has_id id) (all_seen rows) ≡ option_map seen (row_in id (slice_get rows at))
  row_there bound [] at rising index = refl
  row_there bound (row ∷ more) zero rising index = first_row bound row more rising index (has_id id (seen row)) refl
  row_there bound (row ∷ more) (suc at) rising index =
      ap (λ b. cond b (Some (seen row)) (find (has_id id) (all_seen more))) (not_here id (id_of (seen row)) index.0)
      ∙ row_there (bound_after bound (id_of (seen row))) more at rising.1 index.1

-- ---- a mail after the others

pub last_kept : (family : Family) (bound : ℕ) (rows : List Row) (row : MailRow) → IsRising family bound (all_seen rows)
    → is_of family (mail_row row) ≡ true → IsRising family bound (all_seen (rows ++ variants.Mail row ∷ []))
last_kept family bound [] row rising kind = (follows family bound (mail_row row) kind refl, tt)
last_kept family bound (first ∷ more) row rising kind =
    (rising.0, last_kept family (bound_after bound (id_of (seen first))) more row rising.1 kind)
