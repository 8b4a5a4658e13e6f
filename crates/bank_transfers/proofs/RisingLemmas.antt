-- Rows whose ids rise: found by their ids, and what they tell of lists of numbers that rise.
use Rattle.std.proofs.Common.{◌≡◌, ℕ, ◌<◌, Bool, true, false, cond, eqb, ◌||◌, List, [], ◌∷◌, map, filter, Some, refl, sym, ap, ◌∙◌, subst, arith}
use Rattle.std.proofs.lemmas.Bool.{eqb-true, eq-eqb}
use Rattle.std.specs.List.{AllByRecursion, list_any}
use Rattle.ofx_types.specs.declared.transfer.TransferRow.{TransferRow}
use Rattle.bank_transfers.specs.TransfersView.{row_found, RiseById}

pub less_apart : (a b : ℕ) → a < b → eqb a b ≡ false
less_apart a b less = grind (arith, less)

pub more_apart : (a b : ℕ) → a < b → eqb b a ≡ false
more_apart a b less = grind (arith, less)

-- ---- numbers that rise

abbrev pub Rise : List ℕ → Type 0
Rise [] = Unit {0}
Rise (n ∷ ns) = AllByRecursion (λ m. n < m) ns × Rise ns

abbrev pub among : ℕ → List ℕ → Bool
among n ns = list_any (eqb n) ns

-- a number below all of a list is none of them
pub none_among : (n : ℕ) (ns : List ℕ) → AllByRecursion (λ m. n < m) ns → among n ns ≡ false
none_among n [] below = refl
none_among n (m ∷ ns) below = ap (λ b. b || among n ns) (less_apart n m below.0) ∙ none_among n ns below.1

above_of : (n m : ℕ) (ns : List ℕ) → AllByRecursion (λ m. n < m) ns → among m ns ≡ true → n < m
above_of n m [] below is = cc
above_of n m (k ∷ ns) below is =
    (elim (eqb m k) as (λ b. eqb m k ≡ b → (b || among m ns) ≡ true → n < m) [
      | true ↦ (λ same any. subst (λ j. n < j) (sym (eqb-true m k same)) below.0)
      | false ↦ (λ other rest. above_of n m ns below.1 rest)
    ]) refl is

among_itself : (n : ℕ) (ns : List ℕ) → among n (n ∷ ns) ≡ true
among_itself n ns = ap (λ b. b || among n ns) (eq-eqb n n refl)

first_same : (n m : ℕ) (ns ms : List ℕ) → AllByRecursion (λ k. n < k) ns → AllByRecursion (λ k. m < k) ms → (among n (m ∷ ms) ≡ true) → (among m (n ∷ ns) ≡ true) → n ≡ m
first_same n m ns ms ns_above ms_above here there =
    (elim (eqb n m) as (λ b. eqb n m ≡ b → (b || among n ms) ≡ true → n ≡ m) [
      | true ↦ (λ same any. eqb-true n m same)
      | false ↦ (λ other rest. back other (above_of m n ms ms_above rest) there)
    ]) refl here
  where
    back : eqb n m ≡ false → m < n → (eqb m n || among m ns) ≡ true → n ≡ m
    back other less is =
        (elim (eqb m n) as (λ b. eqb m n ≡ b → (b || among m ns) ≡ true → n ≡ m) [
          | true ↦ (λ same any. sym (eqb-true m n same))
          | false ↦ (λ apart rest. let more = above_of n m ns ns_above rest in absurd (omega (arith, less, more)))
        ]) refl is

rest_same : (n k : ℕ) (ns ms : List ℕ) → AllByRecursion (λ m. n < m) ns → AllByRecursion (λ m. n < m) ms → (eqb k n || among k ns) ≡ (eqb k n || among k ms) → among k ns ≡ among k ms
rest_same n k ns ms ns_above ms_above is =
    (elim (eqb k n) as (λ b. eqb k n ≡ b → (b || among k ns) ≡ (b || among k ms) → among k ns ≡ among k ms) [
      | true ↦ (λ same any. let e = eqb-true k n same in ap (λ j. among j ns) e ∙ none_among n ns ns_above ∙ sym (none_among n ms ms_above) ∙ ap (λ j. among j ms) (sym e))
      | false ↦ (λ other rest. rest)
    ]) refl is

-- Two lists of numbers that rise, with the same numbers, are the same.
pub same_rising : (ns ms : List ℕ) → Rise ns → Rise ms → ((k : ℕ) → among k ns ≡ among k ms) → ns ≡ ms
same_rising [] [] ns_rise ms_rise same = refl
same_rising [] (m ∷ ms) ns_rise ms_rise same = let no : false ≡ true = same m ∙ among_itself m ms in cc
same_rising (n ∷ ns) [] ns_rise ms_rise same = let no : true ≡ false = sym (among_itself n ns) ∙ same n in cc
same_rising (n ∷ ns) (m ∷ ms) ns_rise ms_rise same =
    let e : n ≡ m = first_same n m ns ms ns_rise.0 ms_rise.0 (sym (same n) ∙ among_itself n ns) (same m ∙ among_itself m ms) in
    let ms_above : AllByRecursion (λ k. n < k) ms = subst (λ j. AllByRecursion (λ k. j < k) ms) (sym e) ms_rise.0 in
    ap (λ l. n ∷ l) (same_rising ns ms ns_rise.1 ms_rise.1 (λ k. rest_same n k ns ms ns_rise.0 ms_above (same k ∙ ap (λ j. eqb k j || among k ms) (sym e)))) ∙ ap (λ j. j ∷ ms) e

-- ---- rows whose ids rise

all_found : (row : TransferRow) (rows others : List TransferRow) → AllByRecursion (λ (other : TransferRow). row.id < other.id) others → AllByRecursion (λ (other : TransferRow). row_found other.id rows ≡ Some other) others → AllByRecursion (λ (other : TransferRow). row_found other.id (row ∷ rows) ≡ Some other) others
all_found row rows [] above found = tt
all_found row rows (other ∷ others) above found = (
  ap (λ b. cond b (Some row) (row_found other.id rows)) (less_apart row.id other.id above.0) ∙ found.0,
  all_found row rows others above.1 found.1,
)

-- Each row is found by its id.
pub each_found : (rows : List TransferRow) → RiseById rows → AllByRecursion (λ (row : TransferRow). row_found row.id rows ≡ Some row) rows
each_found [] rise = tt
each_found (row ∷ rows) rise = (
  ap (λ b. cond b (Some row) (row_found row.id rows)) (eq-eqb row.id row.id refl),
  all_found row rows rows rise.0 (each_found rows rise.1),
)

abbrev ids : List TransferRow → List ℕ
ids rows = map (λ (row : TransferRow). row.id) rows

pub filter_above : (p : TransferRow → Bool) (n : ℕ) (rows : List TransferRow) → AllByRecursion (λ (row : TransferRow). n < row.id) rows → AllByRecursion (λ m. n < m) (ids (filter p rows))
filter_above p n [] above = tt
filter_above p n (row ∷ rows) above =
    elim (p row) as (λ b. AllByRecursion (λ m. n < m) (ids (cond b (row ∷ filter p rows) (filter p rows)))) [
      | true ↦ (above.0, filter_above p n rows above.1)
      | false ↦ filter_above p n rows above.1
    ]

pub filter_rises : (p : TransferRow → Bool) (rows : List TransferRow) → RiseById rows → Rise (ids (filter p rows))
filter_rises p [] rise = tt
filter_rises p (row ∷ rows) rise =
    elim (p row) as (λ b. Rise (ids (cond b (row ∷ filter p rows) (filter p rows)))) [
      | true ↦ (filter_above p row.id rows rise.0, filter_rises p rows rise.1)
      | false ↦ filter_rises p rows rise.1
    ]
