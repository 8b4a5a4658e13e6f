-- The transfers of one recurring transfer, read off the ones that all recurring transfers made.
use Rattle.std.proofs.Common.{◌≡◌, ℕ, ◌<◌, ◌≤◌, ◌⊎◌, inl, inr, Bool, true, false, not, cond, eqb, ltb, leb, ◌&&◌, ◌||◌, List, [], ◌∷◌, map, filter, get_or, Some, refl, sym, ap, ◌∙◌, subst, arith}
use Rattle.std.proofs.lemmas.Bool.{cases_lt, eqb-true, eq-eqb, cond-true, cond-false}
use Rattle.std.proofs.lemmas.Bool.Decides.{nat_tests}
use Rattle.std.specs.List.{AllByRecursion}
use Rattle.std.specs.List.Sorted.{IsStrictlySortedBy, IsPartitionedBy}
use Rattle.std.specs.Ordering.{eq_by_cmp, is_eq, ordering_then, nat_cmp}
use Rattle.std.specs.declared.cmp.Ordering.{Ordering}
use Rattle.std.specs.declared.cmp.Ordering.TheVariants.{Less, Equal, Greater}
use Rattle.std.proofs.lemmas.Map.Keys.{Less-from_sorted}
use Rattle.std.proofs.lemmas.List.Kept.{IsStrictlySortedBy-filter}
use Rattle.ofx_types.specs.declared.transfer.TransferRow.{TransferRow}
use Rattle.bank_transfers.specs.declared.waiting.Made.{Made}
use Rattle.bank_transfers.specs.declared.waiting.DueTask.{DueTask}
use Rattle.bank_transfers.specs.Order.{has, is_key}
use Rattle.bank_transfers.specs.TransfersView.{row_found, RiseById}
use Rattle.bank_transfers.specs.Waiting.{WaitingView, AreRows, AreFalling, made_order, made_key, AreListed}
use Rattle.bank_transfers.proofs.WaitingLemmas.{same_flips}
use Rattle.bank_transfers.proofs.RisingLemmas.{Rise, among, none_among, same_rising, filter_above, filter_rises}

less_of : (m n : ℕ) → nat_cmp m n ≡ Less → m < n
less_of m n is = by (ltb m n) (eqb m n) refl is
  where
    by : (b c : Bool) → ltb m n ≡ b → cond b Less (cond c Equal Greater) ≡ Less → m < n
    by true c less is = grind (arith, nat_tests, less)
    by false true less is = cc
    by false false less is = cc

equal_of : (m n : ℕ) → nat_cmp m n ≡ Equal → m ≡ n
equal_of m n is = by (ltb m n) (eqb m n) refl is
  where
    by : (b c : Bool) → eqb m n ≡ c → cond b Less (cond c Equal Greater) ≡ Equal → m ≡ n
    by true c same is = cc
    by false true same is = eqb-true m n same
    by false false same is = cc

less_parts : (a b m n : ℕ) → ordering_then (nat_cmp a b) (nat_cmp m n) ≡ Less → (a < b) ⊎ ((a ≡ b) × (m < n))
less_parts a b m n is = by (nat_cmp a b) refl is
  where
    by : (r : Ordering) → nat_cmp a b ≡ r → ordering_then r (nat_cmp m n) ≡ Less → (a < b) ⊎ ((a ≡ b) × (m < n))
    by Less rank less = inl (less_of a b rank)
    by Equal rank less = inr (equal_of a b rank, less_of m n less)
    by Greater rank less = cc

-- ---- their numbers don't rise

pub models_fall : (made : List Made) → IsStrictlySortedBy made_order made → AreFalling made
models_fall made sorted i j d le within = split (cases_lt i j)
  where
    below : ((get_or made j d).model.0 < (get_or made i d).model.0) ⊎ (((get_or made j d).model.0 ≡ (get_or made i d).model.0) × ((get_or made i d).id < (get_or made j d).id)) → (get_or made j d).model.0 ≤ (get_or made i d).model.0
    below (inl less) = omega (arith, less)
    below (inr both) = omega (arith, both.0)

    split : (i < j) ⊎ (j ≤ i) → (get_or made j d).model.0 ≤ (get_or made i d).model.0
    split (inl less) = below (less_parts _ _ _ _ (Less-from_sorted made_order made i j d sorted less within))
    split (inr more) = let same : i ≡ j = omega arith in subst (λ k. (get_or made k d).model.0 ≤ (get_or made i d).model.0) same (omega arith)

pub from_falls : (made : List Made) (model : ℕ) → IsStrictlySortedBy made_order made → AreFalling (filter (λ (m : Made). not (ltb model m.model.0)) made)
from_falls made model sorted = models_fall (filter (λ (m : Made). not (ltb model m.model.0)) made) (IsStrictlySortedBy-filter made_order (λ (m : Made). not (ltb model m.model.0)) made sorted)

-- A search by halves parts those above a number from the others, and those not below it.
pub parted_above : (made : List Made) (model : ℕ) → AreFalling made → IsPartitionedBy (λ (m : Made). ltb model m.model.0) made
parted_above made model fall i j d le within is = above (get_or made i d).model.0 (get_or made j d).model.0 (fall i j d le within) is
  where
    above : (high low : ℕ) → low ≤ high → ltb model low ≡ true → ltb model high ≡ true
    above high low le is = grind (arith, nat_tests, le, is)

pub parted_not_below : (made : List Made) (model : ℕ) → AreFalling made → IsPartitionedBy (λ (m : Made). leb model m.model.0) made
parted_not_below made model fall i j d le within is = above (get_or made i d).model.0 (get_or made j d).model.0 (fall i j d le within) is
  where
    above : (high low : ℕ) → low ≤ high → leb model low ≡ true → leb model high ≡ true
    above high low le is = grind (arith, nat_tests, le, is)

-- ---- those of one

abbrev of : ℕ → List Made → List Made
of model made = filter (λ (m : Made). eqb m.model.0 model) made

both_sides : (a b : ℕ) → (not (ltb b a) && leb b a) ≡ eqb a b
both_sides a b = grind (arith, nat_tests)

pub between : (model : ℕ) (made : List Made) → filter (λ (m : Made). leb model m.model.0) (filter (λ (m : Made). not (ltb model m.model.0)) made) ≡ of model made
between model [] = refl
between model (m ∷ made) =
    step (not (ltb model m.model.0)) (leb model m.model.0) refl (between model made) ∙ ap (λ b. cond b (m ∷ of model made) (of model made)) (both_sides m.model.0 model)
  where
    step : (a b : Bool) → leb model m.model.0 ≡ b → filter (λ (n : Made). leb model n.model.0) (filter (λ (n : Made). not (ltb model n.model.0)) made) ≡ of model made → filter (λ (n : Made). leb model n.model.0) (cond a (m ∷ filter (λ (n : Made). not (ltb model n.model.0)) made) (filter (λ (n : Made). not (ltb model n.model.0)) made)) ≡ cond (a && b) (m ∷ of model made) (of model made)
    step true true is rest = cond-true (leb model m.model.0) _ _ is ∙ ap (λ (l : List Made). m ∷ l) rest
    step true false is rest = cond-false (leb model m.model.0) _ _ is ∙ rest
    step false b is rest = rest

abbrev ids : List Made → List ℕ
ids made = map (λ (m : Made). m.id) made

later_of : (model : ℕ) (m n : Made) → m.model.0 ≡ model → n.model.0 ≡ model → made_order m n ≡ Less → m.id < n.id
later_of model m n same also less = by (less_parts n.model.0 m.model.0 m.id n.id less)
  where
    by : (n.model.0 < m.model.0) ⊎ ((n.model.0 ≡ m.model.0) × (m.id < n.id)) → m.id < n.id
    by (inl low) = absurd (omega (arith, low, same, also))
    by (inr both) = both.1

above_first : (model : ℕ) (m : Made) (made : List Made) → m.model.0 ≡ model → AllByRecursion (λ (n : Made). made_order m n ≡ Less) made → AllByRecursion (λ k. m.id < k) (ids (of model made))
above_first model m [] same above = tt
above_first model m (n ∷ made) same above =
    (elim (eqb n.model.0 model) as (λ b. eqb n.model.0 model ≡ b → AllByRecursion (λ k. m.id < k) (ids (cond b (n ∷ of model made) (of model made)))) [
      | true ↦ (λ is. (later_of model m n same (eqb-true n.model.0 model is) above.0, above_first model m made same above.1))
      | false ↦ (λ is. above_first model m made same above.1)
    ]) refl

of_rises : (model : ℕ) (made : List Made) → IsStrictlySortedBy made_order made → Rise (ids (of model made))
unfolding IsStrictlySortedBy
of_rises model [] sorted = tt
of_rises model (m ∷ made) sorted =
    (elim (eqb m.model.0 model) as (λ b. eqb m.model.0 model ≡ b → Rise (ids (cond b (m ∷ of model made) (of model made)))) [
      | true ↦ (λ is. (above_first model m made (eqb-true m.model.0 model is) sorted.0, of_rises model made sorted.1))
      | false ↦ (λ is. of_rises model made sorted.1)
    ]) refl

-- ---- the same numbers

is_eq_nat : (a b : ℕ) → is_eq (nat_cmp a b) ≡ eqb a b
is_eq_nat a b = by (ltb a b) (eqb a b) refl refl
  where
    by : (l e : Bool) → ltb a b ≡ l → eqb a b ≡ e → is_eq (cond l Less (cond e Equal Greater)) ≡ e
    by true true less same = grind (arith, nat_tests, less, same)
    by true false less same = refl
    by false true less same = refl
    by false false less same = refl

then_both : (r s : Ordering) → is_eq (ordering_then r s) ≡ (is_eq r && is_eq s)
then_both Less s = refl
then_both Equal s = refl
then_both Greater s = refl

key_is : (model n : ℕ) (m : Made) → eq_by_cmp made_order (record { model = record { 0 = model }; id = n }) m ≡ (eqb m.model.0 model && eqb n m.id)
key_is model n m =
    then_both (nat_cmp m.model.0 model) (nat_cmp n m.id) ∙ ap (λ b. b && is_eq (nat_cmp n m.id)) (is_eq_nat m.model.0 model) ∙ ap (λ b. eqb m.model.0 model && b) (is_eq_nat n m.id)

among_of : (model n : ℕ) (made : List Made) → among n (ids (of model made)) ≡ has made_order made (record { model = record { 0 = model }; id = n })
among_of model n [] = refl
among_of model n (m ∷ made) =
    parts (eqb m.model.0 model) (among_of model n made) ∙ ap (λ b. b || has made_order made (record { model = record { 0 = model }; id = n })) (sym (key_is model n m))
  where
    parts : (b : Bool) → among n (ids (of model made)) ≡ has made_order made (record { model = record { 0 = model }; id = n }) → among n (ids (cond b (m ∷ of model made) (of model made))) ≡ ((b && eqb n m.id) || has made_order made (record { model = record { 0 = model }; id = n }))
    parts true rest = ap (λ b. eqb n m.id || b) rest
    parts false rest = rest

abbrev row_ids : List TransferRow → List ℕ
row_ids rows = map (λ (row : TransferRow). row.id) rows

abbrev rows_of : ℕ → List TransferRow → List TransferRow
rows_of model rows = filter (λ (row : TransferRow). eqb row.model model) rows

among_rows : (model n : ℕ) (rows : List TransferRow) → RiseById rows → among n (row_ids (rows_of model rows)) ≡ is_key made_order made_key (record { model = record { 0 = model }; id = n }) (row_found n rows)
among_rows model n [] rise = refl
among_rows model n (row ∷ rows) rise =
    (elim (eqb row.id n) as (λ b. eqb row.id n ≡ b → among n (row_ids (cond (eqb row.model model) (row ∷ rows_of model rows) (rows_of model rows))) ≡ is_key made_order made_key (record { model = record { 0 = model }; id = n }) (cond b (Some row) (row_found n rows))) [
      | true ↦ (λ is. here (eqb-true row.id n is) (eqb row.model model) ∙ ap (λ b. eqb row.model model && b) (sym (eq-eqb n row.id (sym (eqb-true row.id n is)))) ∙ sym (key_is model n (made_key row)))
      | false ↦ (λ is. there is (eqb row.model model) ∙ among_rows model n rows rise.1)
    ]) refl
  where
    here : row.id ≡ n → (b : Bool) → among n (row_ids (cond b (row ∷ rows_of model rows) (rows_of model rows))) ≡ (b && true)
    here same true = ap (λ b. b || among n (row_ids (rows_of model rows))) (eq-eqb n row.id (sym same))
    here same false = ap (λ j. among j (row_ids (rows_of model rows))) (sym same) ∙ none_among row.id (row_ids (rows_of model rows)) (filter_above (λ (r : TransferRow). eqb r.model model) row.id rows rise.0)

    there : eqb row.id n ≡ false → (b : Bool) → among n (row_ids (cond b (row ∷ rows_of model rows) (rows_of model rows))) ≡ among n (row_ids (rows_of model rows))
    there apart true = ap (λ b. b || among n (row_ids (rows_of model rows))) (same_flips n row.id ∙ apart)
    there apart false = refl

-- What is read off has the ids of the rows, in their order.
pub read_off : (waiting : WaitingView) (tasks : List DueTask) (made : List Made) (rows : List TransferRow) (model : ℕ) → AreListed waiting.rows tasks made → AreRows waiting rows
    → map (λ (m : Made). m.id) (filter (λ (m : Made). leb model m.model.0) (filter (λ (m : Made). not (ltb model m.model.0)) made)) ≡ map (λ (row : TransferRow). row.id) (filter (λ (row : TransferRow). eqb row.model model) rows)
read_off waiting tasks made rows model listed are =
    ap ids (between model made)
    ∙ same_rising (ids (of model made)) (row_ids (rows_of model rows)) (of_rises model made listed.by_model.sorted) (filter_rises (λ (r : TransferRow). eqb r.model model) rows are.rise)
    (λ n. among_of model n made ∙ listed.by_model.are (record { model = record { 0 = model }; id = n }) ∙ ap (is_key made_order made_key (record { model = record { 0 = model }; id = n })) (are.found n) ∙ sym (among_rows model n rows are.rise))
