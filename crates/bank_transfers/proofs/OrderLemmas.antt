-- Keys in order with one more, or one less.
use Rattle.std.proofs.Common.{◌≡◌, ℕ, zero, suc, ◌<◌, ◌≤◌, ◌+◌, Bool, true, false, not, ◌&&◌, ◌||◌, List, [], ◌∷◌, length, get_or, inl, inr, refl, sym, ap, ◌∙◌, arith}
use Rattle.std.specs.List.{AllByRecursion, insert, remove}
use Rattle.std.specs.List.Sorted.{IsStrictlySortedBy, IsNonDecreasingBy}
use Rattle.std.specs.Cmp.{IsTotalOrder}
use Rattle.std.specs.declared.cmp.Ordering.{Ordering}
use Rattle.std.specs.Ordering.{eq_by_cmp, is_eq, is_lt, ordering_reverse, ordering_index}
use Rattle.std.specs.declared.cmp.Ordering.TheVariants.{Less, Equal, Greater}
use Rattle.std.proofs.lemmas.Bool.{cases_lt}
use Rattle.std.proofs.lemmas.Cmp.{alike_right}
use Rattle.std.proofs.lemmas.List.Sorted.{searchable_from_sorted}
use Rattle.std.proofs.lemmas.Map.Keys.{Less-from_sorted}
use Rattle.bank_transfers.specs.Order.{has}

-- ---- tests

or_swap : (a b c : Bool) → (a || (b || c)) ≡ (b || (a || c))
or_swap true true c = refl
or_swap true false c = refl
or_swap false b c = refl

equal_of : (r : Ordering) → is_eq r ≡ true → r ≡ Equal
equal_of Less is = cc
equal_of Equal is = refl
equal_of Greater is = cc

-- the same, where a test is passed only if another fails, or only if it passes
one_less : (a h e : Bool) → (a ≡ true → e ≡ false) → (a || (h && not e)) ≡ ((a || h) && not e)
one_less true h true apart = let no : true ≡ false = apart refl in cc
one_less true h false apart = refl
one_less false h e apart = refl

gone : (a h e : Bool) → a ≡ e → (e ≡ true → h ≡ false) → h ≡ ((a || h) && not e)
gone true h true is none = none refl
gone true h false is none = cc
gone false h true is none = cc
gone false true false is none = refl
gone false false false is none = refl

nothing_gone : (h e : Bool) → (e ≡ true → h ≡ false) → h ≡ (h && not e)
nothing_gone true true none = let no : true ≡ false = none refl in cc
nothing_gone true false none = refl
nothing_gone false e none = refl

nothing_new : (h e : Bool) → (e ≡ true → h ≡ true) → h ≡ (e || h)
nothing_new true true there = refl
nothing_new false true there = there refl
nothing_new h false there = refl

module _ {K : Type 0} {R : K → K → Ordering} (o : IsTotalOrder R) where
  abbrev Below : K → List K → Type 0
  Below x ys = AllByRecursion (λ y. R x y ≡ Less) ys

  -- ---- one more

  all_insert : (P : K → Type 0) (xs : List K) (i : ℕ) (x : K) → AllByRecursion P xs → P x → AllByRecursion P (insert xs i x)
  all_insert P [] zero x all one = (one, tt)
  all_insert P [] (suc i) x all one = (one, tt)
  all_insert P (y ∷ ys) zero x all one = (one, all)
  all_insert P (y ∷ ys) (suc i) x all one = (all.0, all_insert P ys i x all.1 one)

  below_more : (x y : K) (zs : List K) → R x y ≡ Less → Below y zs → Below x zs
  below_more x y [] less below = tt
  below_more x y (z ∷ zs) less below = (o.trans x y z less below.0, below_more x y zs less below.1)

  turned : (x y : K) → R y x ≡ Greater → R x y ≡ Less
  turned x y greater = o.antisymm x y ∙ ap ordering_reverse greater

  pub sorted_insert : (xs : List K) (i : ℕ) (x : K) → IsStrictlySortedBy R xs → ((k : ℕ) (d : K) → k < i → k < length xs → R (get_or xs k d) x ≡ Less) → ((k : ℕ) (d : K) → i ≤ k → k < length xs → R (get_or xs k d) x ≡ Greater) → IsStrictlySortedBy R (insert xs i x)
  unfolding IsStrictlySortedBy
  sorted_insert [] zero x sorted low high = (tt, tt)
  sorted_insert [] (suc i) x sorted low high = (tt, tt)
  sorted_insert (y ∷ ys) zero x sorted low high =
      let less = turned x y (high 0 y (omega arith) (omega arith)) in
      ((less, below_more x y ys less sorted.0), sorted)
  sorted_insert (y ∷ ys) (suc i) x sorted low high = (
    all_insert (λ z. R y z ≡ Less) ys i x sorted.0 (low 0 y (omega arith) (omega arith)),
    sorted_insert ys i x sorted.1 (λ k d less within. low (suc k) d (omega arith) (omega arith)) (λ k d more within. high (suc k) d (omega arith) (omega arith)),
  )

  pub has_insert : (xs : List K) (i : ℕ) (x q : K) → has R (insert xs i x) q ≡ (eq_by_cmp R q x || has R xs q)
  has_insert [] zero x q = refl
  has_insert [] (suc i) x q = refl
  has_insert (y ∷ ys) zero x q = refl
  has_insert (y ∷ ys) (suc i) x q =
      ap (λ b. eq_by_cmp R q y || b) (has_insert ys i x q) ∙ or_swap (eq_by_cmp R q y) (eq_by_cmp R q x) (has R ys q)

  -- ---- one less

  all_remove : (P : K → Type 0) (xs : List K) (i : ℕ) → AllByRecursion P xs → AllByRecursion P (remove xs i)
  all_remove P [] zero all = tt
  all_remove P [] (suc i) all = tt
  all_remove P (y ∷ ys) zero all = all.1
  all_remove P (y ∷ ys) (suc i) all = (all.0, all_remove P ys i all.1)

  pub sorted_remove : (xs : List K) (i : ℕ) → IsStrictlySortedBy R xs → IsStrictlySortedBy R (remove xs i)
  unfolding IsStrictlySortedBy
  sorted_remove [] zero sorted = tt
  sorted_remove [] (suc i) sorted = tt
  sorted_remove (y ∷ ys) zero sorted = sorted.1
  sorted_remove (y ∷ ys) (suc i) sorted = (all_remove (λ z. R y z ≡ Less) ys i sorted.0, sorted_remove ys i sorted.1)

  -- what is below all keys, or equal to one that is, is none of them
  none_below : (q y : K) (zs : List K) → R q y ≡ Equal → Below y zs → has R zs q ≡ false
  none_below q y [] same below = refl
  none_below q y (z ∷ zs) same below =
      ap (λ (r : Ordering). is_eq r || has R zs q) (o.congr q y z same ∙ below.0) ∙ none_below q y zs same below.1

  below_at : (P : K → Type 0) (xs : List K) (i : ℕ) (d : K) → AllByRecursion P xs → i < length xs → P (get_or xs i d)
  below_at P [] i d all within = absurd (omega arith)
  below_at P (y ∷ ys) zero d all within = all.0
  below_at P (y ∷ ys) (suc i) d all within = below_at P ys i d all.1 (omega arith)

  pub has_remove : (xs : List K) (i : ℕ) (x q : K) → IsStrictlySortedBy R xs → i < length xs → ((d : K) → R (get_or xs i d) x ≡ Equal) → has R (remove xs i) q ≡ (has R xs q && not (eq_by_cmp R q x))
  unfolding IsStrictlySortedBy
  has_remove [] i x q sorted within same = absurd (omega arith)
  has_remove (y ∷ ys) zero x q sorted within same =
      gone (eq_by_cmp R q y) (has R ys q) (eq_by_cmp R q x) (ap is_eq (alike_right o y x q (same y)))
      (λ is. none_below q y ys (alike_right o y x q (same y) ∙ equal_of (R q x) is) sorted.0)
  has_remove (y ∷ ys) (suc i) x q sorted within same =
      ap (λ b. eq_by_cmp R q y || b) (has_remove ys i x q sorted.1 (omega arith) same)
      ∙ one_less (eq_by_cmp R q y) (has R ys q) (eq_by_cmp R q x)
      (λ is. ap is_eq (o.congr q y x (equal_of (R q y) is) ∙ sym (alike_right o (get_or ys i y) x y (same y)) ∙ below_at (λ z. R y z ≡ Less) ys i y sorted.0 (omega arith)))

  -- ---- found, or not

  has_at : (xs : List K) (i : ℕ) (x q : K) → i < length xs → ((d : K) → R (get_or xs i d) x ≡ Equal) → R q x ≡ Equal → has R xs q ≡ true
  has_at [] i x q within same is = absurd (omega arith)
  has_at (y ∷ ys) zero x q within same is = ap (λ (r : Ordering). is_eq r || has R ys q) (alike_right o y x q (same y) ∙ is)
  has_at (y ∷ ys) (suc i) x q within same is = ap (λ b. eq_by_cmp R q y || b) (has_at ys i x q (omega arith) same is) ∙ or_true (eq_by_cmp R q y)
    where
      or_true : (b : Bool) → (b || true) ≡ true
      or_true true = refl
      or_true false = refl

  pub has_found : (xs : List K) (i : ℕ) (x q : K) → i < length xs → ((d : K) → R (get_or xs i d) x ≡ Equal) → has R xs q ≡ (eq_by_cmp R q x || has R xs q)
  has_found xs i x q within same = nothing_new (has R xs q) (eq_by_cmp R q x) (λ is. has_at xs i x q within same (equal_of (R q x) is))

  other_of : (q x y : K) → R q x ≡ Equal → is_eq (R y x) ≡ false → eq_by_cmp R q y ≡ false
  other_of q x y same other = ap is_eq (o.congr q x y same ∙ o.antisymm x y) ∙ flips (R y x) other
    where
      flips : (r : Ordering) → is_eq r ≡ false → is_eq (ordering_reverse r) ≡ false
      flips Less is = refl
      flips Equal is = cc
      flips Greater is = refl

  has_none : (xs : List K) (x q : K) → R q x ≡ Equal → ((k : ℕ) (d : K) → k < length xs → is_eq (R (get_or xs k d) x) ≡ false) → has R xs q ≡ false
  has_none [] x q same other = refl
  has_none (y ∷ ys) x q same other =
      ap (λ b. b || has R ys q) (other_of q x y same (other 0 y (omega arith))) ∙ has_none ys x q same (λ k d within. other (suc k) d (omega arith))

  pub has_absent : (xs : List K) (x q : K) → ((k : ℕ) (d : K) → k < length xs → is_eq (R (get_or xs k d) x) ≡ false) → has R xs q ≡ (has R xs q && not (eq_by_cmp R q x))
  has_absent xs x q other = nothing_gone (has R xs q) (eq_by_cmp R q x) (λ is. has_none xs x q (equal_of (R q x) is) other)

  -- where a search parts the keys, none is equal
  pub apart : (xs : List K) (i : ℕ) (x : K) → ((k : ℕ) (d : K) → k < i → R (get_or xs k d) x ≡ Less) → ((k : ℕ) (d : K) → i ≤ k → k < length xs → R (get_or xs k d) x ≡ Greater) → (k : ℕ) (d : K) → k < length xs → is_eq (R (get_or xs k d) x) ≡ false
  apart xs i x low high k d within =
      elim (cases_lt k i) [ inl less ↦ ap is_eq (low k d less) | inr more ↦ ap is_eq (high k d more within) ]

  -- keys in order may be searched
  pub rising : (xs : List K) (x : K) → IsStrictlySortedBy R xs → IsNonDecreasingBy (λ y. ordering_index (R y x)) xs
  rising xs x sorted =
      searchable_from_sorted o (λ y. y) xs x (λ k d more within. ap is_lt (o.antisymm _ _ ∙ ap ordering_reverse (Less-from_sorted R xs k (k + 1) d sorted (omega arith) (omega arith))))
