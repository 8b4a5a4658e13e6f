-- Lists in order, by any relation of each element to those after it: one element more at its place, or one less.
use Rattle.std.proofs.Common.{ℕ, zero, suc, ◌<◌, ◌≤◌, List, [], ◌∷◌, length, get_or, insert, remove, arith}
use Rattle.std.specs.List.{AllByRecursion, AllWithin}
use Rattle.bank_recur.specs.InOrder.{AllInOrder}

module _ {X : Type 0} where
  -- what holds of each element in one list holds of each after an edit
  pub all_insert : (P : X → Type 0) (xs : List X) (i : ℕ) (x : X) → P x → AllByRecursion P xs → AllByRecursion P (insert xs i x)
  all_insert P xs zero x here all = (here, all)
  all_insert P [] (suc i) x here all = (here, all)
  all_insert P (y ∷ xs) (suc i) x here all = (all.0, all_insert P xs i x here all.1)

  pub all_remove : (P : X → Type 0) (xs : List X) (i : ℕ) → AllByRecursion P xs → AllByRecursion P (remove xs i)
  all_remove P [] zero all = all
  all_remove P [] (suc i) all = all
  all_remove P (y ∷ xs) zero all = all.1
  all_remove P (y ∷ xs) (suc i) all = (all.0, all_remove P xs i all.1)

  all_from_occurrences : (P : X → Type 0) (xs : List X) → AllWithin P xs 0 (length xs) → AllByRecursion P xs
  all_from_occurrences P [] each = tt
  all_from_occurrences P (y ∷ xs) each = (each 0 y (omega arith) (omega arith), all_from_occurrences P xs (λ k d low high. each (suc k) d (omega arith) (omega arith)))

  -- what holds of each element holds of the one at an index
  pub all_at : (P : X → Type 0) (xs : List X) (i : ℕ) (d : X) → i < length xs → AllByRecursion P xs → P (get_or xs i d)
  all_at P [] i d within all = absurd (omega arith)
  all_at P (y ∷ xs) zero d within all = all.0
  all_at P (y ∷ xs) (suc i) d within all = all_at P xs i d (omega arith) all.1

  -- An element that is in the relation to what is after it, as what is before it does to it, keeps the order.
  pub in_order_insert : (R : X → X → Type 0) (xs : List X) (i : ℕ) (x : X) → AllWithin (λ y. R y x) xs 0 i → AllWithin (R x) xs i (length xs) → i ≤ length xs → AllInOrder R xs → AllInOrder R (insert xs i x)
  in_order_insert R xs zero x prefix rest within order = (all_from_occurrences (R x) xs rest, order)
  in_order_insert R [] (suc i) x prefix rest within order = absurd (omega arith)
  in_order_insert R (y ∷ xs) (suc i) x prefix rest within order = (
    all_insert (R y) xs i x (prefix 0 y (omega arith) (omega arith)) order.0,
    in_order_insert R xs i x (λ k d low high. prefix (suc k) d (omega arith) (omega arith)) (λ k d low high. rest (suc k) d (omega arith) (omega arith)) (omega arith) order.1,
  )

  -- One element less keeps the order.
  pub in_order_remove : (R : X → X → Type 0) (xs : List X) (i : ℕ) → AllInOrder R xs → AllInOrder R (remove xs i)
  in_order_remove R [] zero order = order
  in_order_remove R [] (suc i) order = order
  in_order_remove R (y ∷ xs) zero order = order.1
  in_order_remove R (y ∷ xs) (suc i) order = (all_remove (R y) xs i order.0, in_order_remove R xs i order.1)

  -- each element is in the relation to each after it
  pub in_order_pairs : (R : X → X → Type 0) (xs : List X) (i j : ℕ) (d : X) → i < j → j < length xs → AllInOrder R xs → R (get_or xs i d) (get_or xs j d)
  in_order_pairs R [] i j d less within order = absurd (omega arith)
  in_order_pairs R (y ∷ xs) zero (suc j) d less within order = all_at (R y) xs j d (omega arith) order.0
  in_order_pairs R (y ∷ xs) (suc i) (suc j) d less within order = in_order_pairs R xs i j d (omega arith) (omega arith) order.1
  in_order_pairs R (y ∷ xs) i zero d less within order = absurd (omega arith)
