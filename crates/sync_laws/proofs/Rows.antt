-- Rows that are in rising id: what is put among them, and what is taken out.
use Rattle.std.proofs.Common.{◌≡◌, ◌≢◌, ℕ, ◌<◌, ◌⊎◌, inl, inr, Bool, true, false, not, cond, eqb, List, [], ◌∷◌, ◌++◌, fold, Option, None, Some, refl, sym, ap, ◌∙◌, subst, append_assoc, arith}
use Rattle.std.specs.Prelude.{option_to_list}
use Rattle.std.specs.List.{AllByRecursion, flat_map}
use Rattle.std.specs.Option.{IfSome}
use Rattle.std.proofs.lemmas.Bool.{eqb-true, eqb-false, eq-eqb, ne_eqb, lt-ltb}
use Rattle.std.proofs.lemmas.List.{append-nil}
use Rattle.std.proofs.lemmas.List.Elements.{filter-append}
use Rattle.ofx_types.specs.declared.transfer.TransferRow.{TransferRow}
use Rattle.bank_model.proofs.Lists.{all_append}
use Rattle.bank_model.specs.Stores.{Row, transfer_row, model_row, mail_row, id_of, is_id, has_id, is_less, is_below, put, remove_row, model_if_named}

-- ---- ids

-- an id is one of a list
abbrev pub IsIn : ℕ → List ℕ → Type 0
IsIn id [] = ⊥
IsIn id (j ∷ ids) = (id ≡ j) ⊎ IsIn id ids

abbrev pub AreAbove : ℕ → List ℕ → Type 0
AreAbove n ids = AllByRecursion (λ (j : ℕ). n < j) ids

-- Each id is below those after it.
abbrev pub Rise : List ℕ → Type 0
Rise [] = Unit {0}
Rise (j ∷ ids) = AreAbove j ids × Rise ids

above_in : (n id : ℕ) (ids : List ℕ) → AreAbove n ids → IsIn id ids → n < id
above_in n id [] above is = absurd is
above_in n id (j ∷ ids) above (inl same) = let here = above.0 in omega arith
above_in n id (j ∷ ids) above (inr is) = above_in n id ids above.1 is

-- ---- the row of an id

-- A row that is found has the id.
abbrev pub HasIds : (ℕ → Option Row) → Type 0
HasIds found = (j : ℕ) → IfSome (found j) (λ (row : Row). id_of row ≡ Some j)

-- the rows of ids, one after another
abbrev pub looked : (ℕ → Option Row) → List ℕ → List Row
looked found ids = flat_map (λ (j : ℕ). option_to_list (found j)) ids

has_own : (id : ℕ) (row : Row) → id_of row ≡ Some id → has_id id row ≡ true
has_own id row is = ap (is_id id) is ∙ eq-eqb id id refl

has_other : (id j : ℕ) (row : Row) → id_of row ≡ Some j → j ≢ id → has_id id row ≡ false
has_other id j row is apart = ap (is_id id) is ∙ ne_eqb j id apart

below_other : (id j : ℕ) (row : Row) → id_of row ≡ Some j → j < id → is_below id row ≡ true
below_other id j row is less = ap (is_less id) is ∙ lt-ltb j id less

-- ---- the same rows

pub looked_same : (found other : ℕ → Option Row) (ids : List ℕ) → ((j : ℕ) → IsIn j ids → found j ≡ other j) → looked found ids ≡ looked other ids
looked_same found other [] same = refl
looked_same found other (j ∷ ids) same =
    ap (λ (o : Option Row). option_to_list o ++ looked found ids) (same j (inl refl))
    ∙ ap (λ l. option_to_list (other j) ++ l) (looked_same found other ids (λ k is. same k (inr is)))

-- ---- put in the place of its id

abbrev pub with_row : ℕ → Row → (ℕ → Option Row) → ℕ → Option Row
with_row id row found j = cond (eqb id j) (Some row) (found j)

-- a row is put after those with lesser ids
put_past : (id j : ℕ) (row : Row) (here : Option Row) (rows : List Row) → IfSome here (λ (r : Row). id_of r ≡ Some j) → j < id → put id row (option_to_list here ++ rows) ≡ option_to_list here ++ put id row rows
unfolding put
put_past id j row None rows is less = refl
put_past id j row (Some first) rows is less =
    ap (λ b. cond b (row ∷ rows) (cond (is_below id first) (first ∷ put id row rows) (row ∷ first ∷ rows))) (has_other id j first is (λ (same : j ≡ id). omega arith))
    ∙ ap (λ b. cond b (first ∷ put id row rows) (row ∷ first ∷ rows)) (below_other id j first is less)

put_here : (id : ℕ) (row : Row) (here : Option Row) (old : Row) (rows : List Row) → IfSome here (λ (r : Row). id_of r ≡ Some id) → here ≡ Some old → put id row (option_to_list here ++ rows) ≡ row ∷ rows
unfolding put
put_here id row None old rows is there = cc
put_here id row (Some first) old rows is there =
    ap (λ b. cond b (row ∷ rows) (cond (is_below id first) (first ∷ put id row rows) (row ∷ first ∷ rows))) (has_own id first is)

same_others : (found : ℕ → Option Row) (id : ℕ) (row : Row) (ids : List ℕ) → AreAbove id ids → looked found ids ≡ looked (with_row id row found) ids
same_others found id row ids above =
    looked_same found (with_row id row found) ids
    (λ j is. sym (ap (λ b. cond b (Some row) (found j)) (ne_eqb id j (λ (same : id ≡ j). (let over = above_in id j ids above is in omega arith)))))

pub put_in : (found : ℕ → Option Row) (id : ℕ) (row old : Row) (ids : List ℕ) → HasIds found → Rise ids → IsIn id ids → found id ≡ Some old → put id row (looked found ids) ≡ looked (with_row id row found) ids
put_in found id row old [] has rise is there = absurd is
put_in found id row old (j ∷ ids) has rise (inl same) there =
    ap (λ (k : ℕ). put id row (option_to_list (found k) ++ looked found ids)) (sym same)
    ∙ put_here id row (found id) old (looked found ids) (has id) there
    ∙ ap (λ l. row ∷ l) (same_others found id row ids (subst (λ (k : ℕ). AreAbove k ids) (sym same) rise.0))
    ∙ sym (ap (λ b. option_to_list (cond b (Some row) (found j)) ++ looked (with_row id row found) ids) (eq-eqb id j same))
put_in found id row old (j ∷ ids) has rise (inr is) there =
    let over = above_in j id ids rise.0 is in
    put_past id j row (found j) (looked found ids) (has j) over
    ∙ ap (λ l. option_to_list (found j) ++ l) (put_in found id row old ids has rise.1 is there)
    ∙ sym (ap (λ b. option_to_list (cond b (Some row) (found j)) ++ looked (with_row id row found) ids) (ne_eqb id j (λ (same : id ≡ j). omega arith)))

-- ---- put after all others

-- each row is of an id below
abbrev AreLess : ℕ → List Row → Type 0
AreLess id rows = AllByRecursion (λ (row : Row). (has_id id row ≡ false) × (is_below id row ≡ true)) rows

put_last : (id : ℕ) (row : Row) (rows : List Row) → AreLess id rows → put id row rows ≡ rows ++ row ∷ []
unfolding put
put_last id row [] less = refl
put_last id row (first ∷ rows) less =
    ap (λ b. cond b (row ∷ rows) (cond (is_below id first) (first ∷ put id row rows) (row ∷ first ∷ rows))) less.0.0
    ∙ ap (λ b. cond b (first ∷ put id row rows) (row ∷ first ∷ rows)) less.0.1
    ∙ ap (λ l. first ∷ l) (put_last id row rows less.1)

less_one : (id j : ℕ) (here : Option Row) → IfSome here (λ (row : Row). id_of row ≡ Some j) → j < id → AreLess id (option_to_list here)
less_one id j None is less = tt
less_one id j (Some row) is less = ((has_other id j row is (λ (same : j ≡ id). omega arith), below_other id j row is less), tt)

abbrev pub AreBelow : ℕ → List ℕ → Type 0
AreBelow n ids = AllByRecursion (λ (j : ℕ). j < n) ids

less_looked : (found : ℕ → Option Row) (id : ℕ) (ids : List ℕ) → HasIds found → AreBelow id ids → AreLess id (looked found ids)
less_looked found id [] has below = tt
less_looked found id (j ∷ ids) has below =
    all_append (λ (row : Row). (has_id id row ≡ false) × (is_below id row ≡ true)) (option_to_list (found j)) (looked found ids) (less_one id j (found j) (has j) below.0) (less_looked found id ids has below.1)

pub put_new : (found : ℕ → Option Row) (id : ℕ) (row : Row) (ids : List ℕ) → HasIds found → AreBelow id ids → put id row (looked found ids) ≡ looked found ids ++ row ∷ []
put_new found id row ids has below = put_last id row (looked found ids) (less_looked found id ids has below)

-- ---- taken out

abbrev pub without_row : ℕ → (ℕ → Option Row) → ℕ → Option Row
without_row id found j = cond (eqb id j) None (found j)

out_one : (id j : ℕ) (here : Option Row) → IfSome here (λ (row : Row). id_of row ≡ Some j) → remove_row id (option_to_list here) ≡ option_to_list (cond (eqb id j) None here)
out_one id j None is = none_left (eqb id j)
  where
    none_left : (same : Bool) → remove_row id [] ≡ option_to_list (cond same None None)
    none_left true = refl
    none_left false = refl
out_one id j (Some row) is = by_id (eqb id j) refl
  where
    by_id : (same : Bool) → eqb id j ≡ same → cond (not (has_id id row)) (row ∷ []) [] ≡ option_to_list (cond same None (Some row))
    by_id true e = ap (λ b. cond (not b) (row ∷ []) []) (has_own id row (is ∙ ap (λ (n : ℕ). Some n) (sym (eqb-true id j e))))
    by_id false e = ap (λ b. cond (not b) (row ∷ []) []) (has_other id j row is (λ same. eqb-false id j e (sym same)))

pub out_of : (found : ℕ → Option Row) (id : ℕ) (ids : List ℕ) → HasIds found → remove_row id (looked found ids) ≡ looked (without_row id found) ids
out_of found id [] has = refl
out_of found id (j ∷ ids) has =
    filter-append (λ (row : Row). not (has_id id row)) (option_to_list (found j)) (looked found ids)
    ∙ ap (λ l. l ++ remove_row id (looked found ids)) (out_one id j (found j) (has j))
    ∙ ap (λ l. option_to_list (without_row id found j) ++ l) (out_of found id ids has)

-- ---- the recurring transfer of a row

other_model : (id j before : ℕ) (row : Row) → id_of row ≡ Some j → j ≢ id → model_if_named id before row ≡ before
other_model id j before (transfer_row row) is apart =
    let same : row.id ≡ j = cc in
    ap (λ b. cond b row.model before) (ne_eqb row.id id (λ (here : row.id ≡ id). apart (sym same ∙ here)))
other_model id j before (model_row row) is apart = refl
other_model id j before (mail_row row) is apart = refl

other_model_if : (id j before : ℕ) (here : Option Row) (rows : List Row) → IfSome here (λ (row : Row). id_of row ≡ Some j) → j ≢ id → fold (model_if_named id) before (option_to_list here ++ rows) ≡ fold (model_if_named id) before rows
other_model_if id j before None rows is apart = refl
other_model_if id j before (Some row) rows is apart = ap (λ (n : ℕ). fold (model_if_named id) n rows) (other_model id j before row is apart)

others_model : (found : ℕ → Option Row) (id before : ℕ) (ids : List ℕ) → HasIds found → AreAbove id ids → fold (model_if_named id) before (looked found ids) ≡ before
others_model found id before [] has above = refl
others_model found id before (j ∷ ids) has above =
    let over = above.0 in
    other_model_if id j before (found j) (looked found ids) (has j) (λ (same : j ≡ id). omega arith)
    ∙ others_model found id before ids has above.1

own_model : (id before : ℕ) (row : TransferRow) → row.id ≡ id → model_if_named id before (transfer_row row) ≡ row.model
own_model id before row is = ap (λ b. cond b row.model before) (eq-eqb row.id id is)

pub model_in_index : (found : ℕ → Option Row) (id before : ℕ) (row : TransferRow) (ids : List ℕ) → HasIds found → Rise ids → IsIn id ids → found id ≡ Some (transfer_row row) → fold (model_if_named id) before (looked found ids) ≡ row.model
model_in_index found id before row [] has rise is there = absurd is
model_in_index found id before row (j ∷ ids) has rise (inl same) there =
    let here = subst (λ (o : Option Row). IfSome o (λ (r : Row). id_of r ≡ Some id)) there (has id) in
    let named : row.id ≡ id = cc in
    ap (λ (k : ℕ). fold (model_if_named id) before (option_to_list (found k) ++ looked found ids)) (sym same)
    ∙ ap (λ (o : Option Row). fold (model_if_named id) before (option_to_list o ++ looked found ids)) there
    ∙ ap (λ (n : ℕ). fold (model_if_named id) n (looked found ids)) (own_model id before row named)
    ∙ others_model found id row.model ids has (subst (λ (k : ℕ). AreAbove k ids) (sym same) rise.0)
model_in_index found id before row (j ∷ ids) has rise (inr is) there =
    let over = above_in j id ids rise.0 is in
    other_model_if id j before (found j) (looked found ids) (has j) (λ (same : j ≡ id). omega arith)
    ∙ model_in_index found id before row ids has rise.1 is there

-- ---- put one after another

abbrev pub put_found : ℕ → Option Row → List Row → List Row
put_found id None rows = rows
put_found id (Some row) rows = put id row rows

abbrev pub stood : (ℕ → Option Row) → List Row → List ℕ → List Row
stood found rows ids = fold (λ (held : List Row) (j : ℕ). put_found j (found j) held) rows ids

-- the rows of rising ids, put one after another after rows of lesser ids, stand as they come
put_found_last : (id : ℕ) (here : Option Row) (rows : List Row) → AreLess id rows → put_found id here rows ≡ rows ++ option_to_list here
put_found_last id None rows less = sym (append-nil rows)
put_found_last id (Some row) rows less = put_last id row rows less

abbrev AllLess : List Row → List ℕ → Type 0
AllLess rows ids = AllByRecursion (λ (j : ℕ). AreLess j rows) ids

less_more : (j : ℕ) (rows : List Row) (here : Option Row) (ids : List ℕ) → IfSome here (λ (row : Row). id_of row ≡ Some j) → AreAbove j ids → AllLess rows ids → AllLess (rows ++ option_to_list here) ids
less_more j rows here [] is above less = tt
less_more j rows here (k ∷ ids) is above less =
    (all_append (λ (row : Row). (has_id k row ≡ false) × (is_below k row ≡ true)) rows (option_to_list here) less.0 (less_one k j here is above.0), less_more j rows here ids is above.1 less.1)

held_after : (found : ℕ → Option Row) (rows : List Row) (ids : List ℕ) → HasIds found → Rise ids → AllLess rows ids → stood found rows ids ≡ rows ++ looked found ids
held_after found rows [] has rise less = sym (append-nil rows)
held_after found rows (j ∷ ids) has rise less =
    ap (λ l. stood found l ids) (put_found_last j (found j) rows less.0)
    ∙ held_after found (rows ++ option_to_list (found j)) ids has rise.1 (less_more j rows (found j) ids (has j) rise.0 less.1)
    ∙ append_assoc rows (option_to_list (found j)) (looked found ids)

none_less : (ids : List ℕ) → AllLess [] ids
none_less [] = tt
none_less (j ∷ ids) = (tt, none_less ids)

pub held_looked : (found : ℕ → Option Row) (ids : List ℕ) → HasIds found → Rise ids → stood found [] ids ≡ looked found ids
held_looked found ids has rise = held_after found [] ids has rise (none_less ids)
