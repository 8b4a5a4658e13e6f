-- What an entry does to the rows of one family: it makes one, gives one anew, takes one away, or does nothing to them.
use Rattle.std.proofs.Common.{◌≡◌, ℕ, ◌+◌, ◌<◌, ◌≤◌, ◌⊎◌, inl, inr, Bool, true, false, cond, eqb, List, [], ◌∷◌, ◌++◌, length, length-append, Option, None, Some, refl, sym, ap, ◌∙◌, subst, append_assoc, arith}
use Rattle.std.specs.Prelude.{option_to_list}
use Rattle.std.specs.List.{flat_map}
use Rattle.std.proofs.lemmas.Bool.{eqb-true, eqb-false, eq-eqb, ne_eqb}
use Rattle.std.proofs.lemmas.Grind.{flat_map-append}
use Rattle.std.proofs.lemmas.List.{append-nil}
use Rattle.ofx_types.specs.declared.number.ObjectId.{ObjectId}
use Rattle.ofx_types.specs.declared.transfer.Change.{Change}
use Rattle.bank_model.specs.declared.entry.Entry.{Entry}
use Rattle.bank_model.specs.Objects.{history_of}
use Rattle.bank_model.specs.Stores.{Row, put, remove_row}
use Rattle.sync_laws.proofs.Rows.{IsIn, AreAbove, AreBelow, Rise, HasIds, looked, looked_same, with_row, put_in, put_new, without_row, out_of}
use Rattle.bank_model.proofs.Histories.{history_of-append}

pub data Act : Type 0 where
  made : ℕ → Row → Act
  given : ℕ → Row → Act
  gone : ℕ → Act
  nothing : Act

abbrev pub acted : Act → List Row → List Row
acted (made id row) rows = put id row rows
acted (given id row) rows = put id row rows
acted (gone id) rows = remove_row id rows
acted nothing rows = rows

-- the ids that entries made
abbrev pub made_id : Act → List ℕ
made_id (made id row) = id ∷ []
made_id (given id row) = []
made_id (gone id) = []
made_id nothing = []

abbrev pub ids_made : (Change → Act) → List Entry → List ℕ
ids_made act entries = flat_map (λ (entry : Entry). made_id (act entry.change)) entries

-- the object in which an id stands, and its row, after an entry of an object
abbrev pub home_after : ℕ → Act → (ℕ → Option ℕ) → ℕ → Option ℕ
home_after object (made id row) home j = cond (eqb id j) (Some object) (home j)
home_after object (given id row) home j = home j
home_after object (gone id) home j = home j
home_after object nothing home j = home j

abbrev pub found_after : Act → (ℕ → Option Row) → ℕ → Option Row
found_after (made id row) found j = with_row id row found j
found_after (given id row) found j = with_row id row found j
found_after (gone id) found j = without_row id found j
found_after nothing found j = found j

-- What is made has the next number as its id. A row is given anew, or taken away, where it is.
abbrev pub Fits : ℕ → ℕ → Act → (ℕ → Option ℕ) → (ℕ → Option Row) → Type 0
Fits count object (made id row) home found = id ≡ count + 1
Fits count object (given id row) home found = (home id ≡ Some object) × ((old : Row) × (found id ≡ Some old))
Fits count object (gone id) home found = home id ≡ Some object
Fits count object nothing home found = Unit {0}

pub record IsStep (count object : ℕ) (act : Act) (home next_home : ℕ → Option ℕ) (found next_found : ℕ → Option Row) : Type 0 where
  pub fits : Fits count object act home found
  pub homes : (j : ℕ) → next_home j ≡ home_after object act home j
  pub founds : (j : ℕ) → next_found j ≡ found_after act found j

-- Each id has a number that was given, is one of those that the entries of its object made, and these rise.
pub record Holds (act : Change → Act) (entries : List Entry) (home : ℕ → Option ℕ) : Type 0 where
  pub few : (j o : ℕ) → home j ≡ Some o → j ≤ length entries
  pub located : (object : ObjectId) (j : ℕ) → IsIn j (ids_made act (history_of object entries)) → home j ≡ Some object.0
  pub there : (object : ObjectId) (j : ℕ) → home j ≡ Some object.0 → IsIn j (ids_made act (history_of object entries))
  pub rise : (object : ObjectId) → Rise (ids_made act (history_of object entries))

-- ---- ids, one more

in_left : (j : ℕ) (xs ys : List ℕ) → IsIn j xs → IsIn j (xs ++ ys)
in_left j [] ys is = absurd is
in_left j (x ∷ xs) ys (inl same) = inl same
in_left j (x ∷ xs) ys (inr is) = inr (in_left j xs ys is)

in_right : (j : ℕ) (xs ys : List ℕ) → IsIn j ys → IsIn j (xs ++ ys)
in_right j [] ys is = is
in_right j (x ∷ xs) ys is = inr (in_right j xs ys is)

pub in_either : (j : ℕ) (xs ys : List ℕ) → IsIn j (xs ++ ys) → IsIn j xs ⊎ IsIn j ys
in_either j [] ys is = inr is
in_either j (x ∷ xs) ys (inl same) = inl (inl same)
in_either j (x ∷ xs) ys (inr is) = (elim (in_either j xs ys is) as (λ either. IsIn j (x ∷ xs) ⊎ IsIn j ys) [
  | inl here ↦ inl (inr here)
  | inr here ↦ inr here
])

above_more : (n id : ℕ) (ids : List ℕ) → AreAbove n ids → n < id → AreAbove n (ids ++ id ∷ [])
above_more n id [] above less = (less, tt)
above_more n id (j ∷ ids) above less = (above.0, above_more n id ids above.1 less)

rise_more : (id : ℕ) (ids : List ℕ) → Rise ids → AreBelow id ids → Rise (ids ++ id ∷ [])
rise_more id [] rise below = (tt, tt)
rise_more id (j ∷ ids) rise below = (above_more j id ids rise.0 below.0, rise_more id ids rise.1 below.1)

below_all : (n : ℕ) (ids : List ℕ) → ((j : ℕ) → IsIn j ids → j < n) → AreBelow n ids
below_all n [] less = tt
below_all n (j ∷ ids) less = (less j (inl refl), below_all n ids (λ k is. less k (inr is)))

-- ---- the entries of an object, one more

abbrev ids_if : Bool → Act → List ℕ
ids_if here act = cond here (made_id act) []

pub history_push : (object : ObjectId) (entries : List Entry) (entry : Entry) → history_of object (entries ++ entry ∷ []) ≡ history_of object entries ++ cond (eqb entry.object.0 object.0) (entry ∷ []) []
unfolding history_of
history_push object entries entry = history_of-append object entries (entry ∷ [])

ids_if_here : (act : Change → Act) (entry : Entry) (here : Bool) → ids_made act (cond here (entry ∷ []) []) ≡ ids_if here (act entry.change)
ids_if_here act entry true = append-nil (made_id (act entry.change))
ids_if_here act entry false = refl

ids_push : (act : Change → Act) (object : ObjectId) (entries : List Entry) (entry : Entry) → ids_made act (history_of object (entries ++ entry ∷ [])) ≡ ids_made act (history_of object entries) ++ ids_if (eqb entry.object.0 object.0) (act entry.change)
ids_push act object entries entry =
    ap (ids_made act) (history_push object entries entry)
    ∙ flat_map-append (λ (e : Entry). made_id (act e.change)) (history_of object entries) (cond (eqb entry.object.0 object.0) (entry ∷ []) [])
    ∙ ap (λ l. ids_made act (history_of object entries) ++ l) (ids_if_here act entry (eqb entry.object.0 object.0))

-- ---- where ids stand, one entry more

few_after : (count object : ℕ) (act : Act) (home : ℕ → Option ℕ) (found : ℕ → Option Row) (j o : ℕ) → Fits count object act home found → ((k p : ℕ) → home k ≡ Some p → k ≤ count) → home_after object act home j ≡ Some o → j ≤ count + 1
few_after count object (made id row) home found j o fits few is = by_id (eqb id j) refl is
  where
    by_id : (same : Bool) → eqb id j ≡ same → cond same (Some object) (home j) ≡ Some o → j ≤ count + 1
    by_id true e is = let same : id ≡ j = eqb-true id j e in omega arith
    by_id false e is = let less = few j o is in omega arith
few_after count object (given id row) home found j o fits few is = let less = few j o is in omega arith
few_after count object (gone id) home found j o fits few is = let less = few j o is in omega arith
few_after count object nothing home found j o fits few is = let less = few j o is in omega arith

-- what stood before stands where it stood
home_stays : (count object : ℕ) (act : Act) (home : ℕ → Option ℕ) (found : ℕ → Option Row) (j : ℕ) → Fits count object act home found → j ≤ count → home_after object act home j ≡ home j
home_stays count object (made id row) home found j fits less = ap (λ b. cond b (Some object) (home j)) (ne_eqb id j (λ (same : id ≡ j). omega arith))
home_stays count object (given id row) home found j fits less = refl
home_stays count object (gone id) home found j fits less = refl
home_stays count object nothing home found j fits less = refl

-- what is new is in the entry's object
home_new : (object index : ℕ) (act : Act) (home : ℕ → Option ℕ) (j : ℕ) (here : Bool) → eqb object index ≡ here → IsIn j (ids_if here act) → home_after object act home j ≡ Some index
home_new object index (made id row) home j true here (inl same) =
    ap (λ b. cond b (Some object) (home j)) (eq-eqb id j (sym same)) ∙ ap (λ (n : ℕ). Some n) (eqb-true object index here)
home_new object index (made id row) home j true here (inr is) = absurd is
home_new object index (given id row) home j true here is = absurd is
home_new object index (gone id) home j true here is = absurd is
home_new object index nothing home j true here is = absurd is
home_new object index act home j false here is = absurd is

in_new : (object index : ℕ) (act : Act) (home : ℕ → Option ℕ) (j : ℕ) (ids : List ℕ) → (home j ≡ Some index → IsIn j ids) → home_after object act home j ≡ Some index → IsIn j (ids ++ ids_if (eqb object index) act)
in_new object index (made id row) home j ids there is = by_id (eqb id j) refl is
  where
    here : (same : Bool) → object ≡ index → eqb object index ≡ same → id ≡ j → IsIn j (ids ++ ids_if same (made id row))
    here true is e same = in_right j ids (id ∷ []) (inl (sym same))
    here false is e same = absurd (eqb-false object index e is)

    by_id : (same : Bool) → eqb id j ≡ same → cond same (Some object) (home j) ≡ Some index → IsIn j (ids ++ ids_if (eqb object index) (made id row))
    by_id true e is = here (eqb object index) (let o : object ≡ index = cc in o) refl (eqb-true id j e)
    by_id false e is = in_left j ids (ids_if (eqb object index) (made id row)) (there is)
in_new object index (given id row) home j ids there is = in_left j ids (ids_if (eqb object index) (given id row)) (there is)
in_new object index (gone id) home j ids there is = in_left j ids (ids_if (eqb object index) (gone id)) (there is)
in_new object index nothing home j ids there is = in_left j ids (ids_if (eqb object index) nothing) (there is)

rise_if : (count object : ℕ) (act : Act) (home : ℕ → Option ℕ) (found : ℕ → Option Row) (ids : List ℕ) (here : Bool) → Fits count object act home found → Rise ids → AreBelow (count + 1) ids → Rise (ids ++ ids_if here act)
rise_if count object (made id row) home found ids true fits rise below = rise_more id ids rise (subst (λ (n : ℕ). AreBelow n ids) (sym fits) below)
rise_if count object (given id row) home found ids true fits rise below = subst Rise (sym (append-nil ids)) rise
rise_if count object (gone id) home found ids true fits rise below = subst Rise (sym (append-nil ids)) rise
rise_if count object nothing home found ids true fits rise below = subst Rise (sym (append-nil ids)) rise
rise_if count object act home found ids false fits rise below = subst Rise (sym (append-nil ids)) rise

-- the ids of an object are those of entries before
pub ids_below : (act : Change → Act) (entries : List Entry) (home : ℕ → Option ℕ) (object : ObjectId) → Holds act entries home → AreBelow (length entries + 1) (ids_made act (history_of object entries))
ids_below act entries home object holds =
    below_all (length entries + 1) (ids_made act (history_of object entries))
    (λ j is. (let less = holds.few j object.0 (holds.located object j is) in omega arith))

pub holds_more : (act : Change → Act) (entries : List Entry) (entry : Entry) (home next_home : ℕ → Option ℕ) (found next_found : ℕ → Option Row) → Holds act entries home → IsStep (length entries) entry.object.0 (act entry.change) home next_home found next_found → Holds act (entries ++ entry ∷ []) next_home
holds_more act entries entry home next_home found next_found holds step =
    let size : length (entries ++ entry ∷ []) ≡ length entries + 1 = length-append entries (entry ∷ []) in
    let here : Act = act entry.change in
    record {
      few = λ j o is. (let less = few_after (length entries) entry.object.0 here home found j o step.fits holds.few (sym (step.homes j) ∙ is) in omega arith);
      located = λ object j is.
          step.homes j ∙ (elim (in_either j (ids_made act (history_of object entries)) _ (subst (IsIn j) (ids_push act object entries entry) is)) as (λ either. home_after entry.object.0 here home j ≡ Some object.0) [
            | inl old ↦ home_stays (length entries) entry.object.0 here home found j step.fits (holds.few j object.0 (holds.located object j old)) ∙ holds.located object j old
            | inr new ↦ home_new entry.object.0 object.0 here home j (eqb entry.object.0 object.0) refl new
          ]);
      there = λ object j is.
          subst (IsIn j) (sym (ids_push act object entries entry))
          (in_new entry.object.0 object.0 here home j (ids_made act (history_of object entries)) (holds.there object j) (sym (step.homes j) ∙ is));
      rise = λ object.
          subst Rise (sym (ids_push act object entries entry))
          (rise_if (length entries) entry.object.0 here home found (ids_made act (history_of object entries)) (eqb entry.object.0 object.0) step.fits (holds.rise object) (ids_below act entries home object holds));
    }

pub holds_none : (act : Change → Act) (home : ℕ → Option ℕ) → ((j : ℕ) → home j ≡ None) → Holds act [] home
unfolding history_of
holds_none act home none = record {
  few = λ j o is. absurd (let never : None ≡ Some o = sym (none j) ∙ is in cc);
  located = λ object j is. absurd is;
  there = λ object j is. absurd (let never : None ≡ Some object.0 = sym (none j) ∙ is in cc);
  rise = λ object. tt;
}

-- ---- rows, one entry more

-- an entry of another object leaves the rows of this one's ids
found_stays : (count object index : ℕ) (act : Act) (home : ℕ → Option ℕ) (found : ℕ → Option Row) (j : ℕ) → Fits count object act home found → eqb object index ≡ false → home j ≡ Some index → j ≤ count → found j ≡ found_after act found j
found_stays count object index (made id row) home found j fits apart is less = sym (ap (λ b. cond b (Some row) (found j)) (ne_eqb id j (λ (same : id ≡ j). omega arith)))
found_stays count object index (given id row) home found j fits apart is less =
    sym (ap (λ b. cond b (Some row) (found j)) (ne_eqb id j (λ same. eqb-false object index apart (let one : Some object ≡ Some index = sym fits.0 ∙ ap home same ∙ is in cc))))
found_stays count object index (gone id) home found j fits apart is less =
    sym (ap (λ b. cond b None (found j)) (ne_eqb id j (λ same. eqb-false object index apart (let one : Some object ≡ Some index = sym fits ∙ ap home same ∙ is in cc))))
found_stays count object index nothing home found j fits apart is less = refl

new_row : (found : ℕ → Option Row) (id : ℕ) (row : Row) (ids : List ℕ) → AreBelow id ids → looked found ids ++ row ∷ [] ≡ looked (with_row id row found) (ids ++ id ∷ [])
new_row found id row [] below = sym (ap (λ b. option_to_list (cond b (Some row) (found id)) ++ []) (eq-eqb id id refl))
new_row found id row (j ∷ ids) below =
    append_assoc (option_to_list (found j)) (looked found ids) (row ∷ [])
    ∙ ap (λ l. option_to_list (found j) ++ l) (new_row found id row ids below.1)
    ∙ sym (ap (λ b. option_to_list (cond b (Some row) (found j)) ++ looked (with_row id row found) (ids ++ id ∷ [])) (ne_eqb id j (λ (same : id ≡ j). (let less = below.0 in omega arith))))

-- an entry of this object does to its rows what it does to the ids
acted_here : (count object : ℕ) (act : Act) (home : ℕ → Option ℕ) (found : ℕ → Option Row) (ids : List ℕ) → Fits count object act home found → HasIds found → Rise ids → AreBelow (count + 1) ids → ((j : ℕ) → home j ≡ Some object → IsIn j ids) → acted act (looked found ids) ≡ looked (found_after act found) (ids ++ made_id act)
acted_here count object (made id row) home found ids fits has rise below there =
    let under : AreBelow id ids = subst (λ (n : ℕ). AreBelow n ids) (sym fits) below in
    put_new found id row ids has under ∙ new_row found id row ids under
acted_here count object (given id row) home found ids fits has rise below there =
    put_in found id row fits.1.0 ids has rise (there id fits.0) fits.1.1 ∙ ap (looked (with_row id row found)) (sym (append-nil ids))
acted_here count object (gone id) home found ids fits has rise below there =
    out_of found id ids has ∙ ap (looked (without_row id found)) (sym (append-nil ids))
acted_here count object nothing home found ids fits has rise below there = ap (looked found) (sym (append-nil ids))

-- The rows of an object after one entry more: what its entry does to them, or what they were.
pub rows_more : (act : Change → Act) (object : ObjectId) (entries : List Entry) (entry : Entry) (home next_home : ℕ → Option ℕ) (found next_found : ℕ → Option Row) → Holds act entries home → HasIds found → IsStep (length entries) entry.object.0 (act entry.change) home next_home found next_found → cond (eqb entry.object.0 object.0) (acted (act entry.change) (looked found (ids_made act (history_of object entries)))) (looked found (ids_made act (history_of object entries))) ≡ looked next_found (ids_made act (history_of object (entries ++ entry ∷ [])))
rows_more act object entries entry home next_home found next_found holds has step =
    by_object (eqb entry.object.0 object.0) refl
    ∙ looked_same (found_after here found) next_found (ids ++ ids_if (eqb entry.object.0 object.0) here) (λ j is. sym (step.founds j))
    ∙ ap (looked next_found) (sym (ids_push act object entries entry))
  where
    here : Act
    here = act entry.change

    ids : List ℕ
    ids = ids_made act (history_of object entries)

    by_object : (own : Bool) → eqb entry.object.0 object.0 ≡ own → cond own (acted here (looked found ids)) (looked found ids) ≡ looked (found_after here found) (ids ++ ids_if own here)
    by_object true is =
        acted_here (length entries) entry.object.0 here home found ids step.fits has (holds.rise object) (ids_below act entries home object holds)
        (λ j at. holds.there object j (at ∙ ap (λ (n : ℕ). Some n) (eqb-true entry.object.0 object.0 is)))
    by_object false is =
        looked_same found (found_after here found) ids
        (λ j at. found_stays (length entries) entry.object.0 object.0 here home found j step.fits is (holds.located object j at) (holds.few j object.0 (holds.located object j at)))
        ∙ ap (looked (found_after here found)) (sym (append-nil ids))
