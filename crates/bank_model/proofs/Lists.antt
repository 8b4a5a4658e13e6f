-- Lists of which something holds of each element, or that a test parts.
use Rattle.std.proofs.Common.{◌≡◌, ℕ, zero, suc, ◌+◌, ◌<◌, Bool, true, false, not, cond, List, [], ◌∷◌, ◌++◌, length, drop, get_or, filter, map, refl, ap, ◌∙◌, arith, add-one, drop-cons}
use Rattle.std.specs.List.{AllByRecursion, flat_map, list_all}
use Rattle.std.proofs.lemmas.Bool.{and_parts, and_from}

pub all_append : {X : Type 0} (P : X → Type 0) (xs ys : List X) → AllByRecursion P xs → AllByRecursion P ys → AllByRecursion P (xs ++ ys)
all_append P [] ys first second = second
all_append P (x ∷ xs) ys first second = (first.0, all_append P xs ys first.1 second)

pub all_filter : {X : Type 0} (P Q : X → Type 0) (p : X → Bool) (xs : List X) → ((x : X) → P x → p x ≡ true → Q x) → AllByRecursion P xs → AllByRecursion Q (filter p xs)
all_filter P Q p [] step all = tt
all_filter {X} P Q p (x ∷ xs) step all =
    (elim (p x) as (λ b. p x ≡ b → AllByRecursion Q (cond b (x ∷ filter p xs) (filter p xs))) [
      | true ↦ (λ is. (step x all.0 is, all_filter P Q p xs step all.1))
      | false ↦ (λ is. all_filter P Q p xs step all.1)
    ]) refl

pub all_map : {X Y : Type 0} (P : X → Type 0) (Q : Y → Type 0) (f : X → Y) (xs : List X) → ((x : X) → P x → Q (f x)) → AllByRecursion P xs → AllByRecursion Q (map f xs)
all_map P Q f [] step all = tt
all_map P Q f (x ∷ xs) step all = (step x all.0, all_map P Q f xs step all.1)

pub all_flat : {X Y : Type 0} (P : X → Type 0) (Q : Y → Type 0) (f : X → List Y) (xs : List X) → ((x : X) → P x → AllByRecursion Q (f x)) → AllByRecursion P xs → AllByRecursion Q (flat_map f xs)
all_flat P Q f [] step all = tt
all_flat P Q f (x ∷ xs) step all = all_append Q (f x) (flat_map f xs) (step x all.0) (all_flat P Q f xs step all.1)

pub all_step : {X : Type 0} (P Q : X → Type 0) (xs : List X) → ((x : X) → P x → Q x) → AllByRecursion P xs → AllByRecursion Q xs
all_step P Q [] step all = tt
all_step P Q (x ∷ xs) step all = (step x all.0, all_step P Q xs step all.1)

pub all_both : {X : Type 0} (P Q R : X → Type 0) (xs : List X) → ((x : X) → P x → Q x → R x) → AllByRecursion P xs → AllByRecursion Q xs → AllByRecursion R xs
all_both P Q R [] step ps qs = tt
all_both P Q R (x ∷ xs) step ps qs = (step x ps.0 qs.0, all_both P Q R xs step ps.1 qs.1)

pub all_filtered : {X : Type 0} (P : X → Type 0) (p : X → Bool) (xs : List X) → AllByRecursion P xs → AllByRecursion P (filter p xs)
all_filtered P p xs all = all_filter P P p xs (λ x here is. here) all

-- what all have, the one at each place has, and the other way round
pub all_by_index : {X : Type 0} (P : X → Type 0) (xs : List X) (k : ℕ) (d : X) → AllByRecursion P xs → k < length xs → P (get_or xs k d)
all_by_index P [] k d all below = absurd (omega arith)
all_by_index P (x ∷ xs) zero d all below = all.0
all_by_index P (x ∷ xs) (suc k) d all below = all_by_index P xs k d all.1 (omega arith)

pub all_from : {X : Type 0} (P : X → Type 0) (xs : List X) → ((k : ℕ) (d : X) → k < length xs → P (get_or xs k d)) → AllByRecursion P xs
all_from P [] each = tt
all_from P (x ∷ xs) each = (each 0 x (omega arith), all_from P xs (λ k d below. each (suc k) d (omega arith)))

-- ---- what is left

pub rest_is : {X : Type 0} (xs : List X) (k : ℕ) (x : X) → k < length xs → x ≡ get_or xs k x → drop k xs ≡ x ∷ drop (k + 1) xs
rest_is xs k x below is = rw (add-one, drop-cons xs k x, ← is) refl

-- ---- what passes a test

-- what passes is last
abbrev pub IsLast : {X : Type 0} → (X → Bool) → List X → Type 0
IsLast p xs = xs ≡ filter (λ x. not (p x)) xs ++ filter p xs

-- what a filter keeps passes
pub filter_passes : {X : Type 0} (p : X → Bool) (xs : List X) → list_all p (filter p xs) ≡ true
filter_passes p [] = refl
filter_passes {X} p (x ∷ xs) = one (p x) refl (filter_passes p xs)
  where
    one : (b : Bool) → p x ≡ b → list_all p (filter p xs) ≡ true → list_all p (cond b (x ∷ filter p xs) (filter p xs)) ≡ true
    one true here rest = and_from (p x) (list_all p (filter p xs)) here rest
    one false here rest = rest

pub all_kept : {X : Type 0} (p : X → Bool) (xs : List X) → list_all p xs ≡ true → filter p xs ≡ xs
all_kept p [] all = refl
all_kept {X} p (x ∷ xs) all =
    let both = and_parts (p x) (list_all p xs) all in
    ap (λ (b : Bool). cond b (x ∷ filter p xs) (filter p xs)) both.0 ∙ ap (λ (l : List X). x ∷ l) (all_kept p xs both.1)

pub none_kept : {X : Type 0} (p : X → Bool) (xs : List X) → list_all p xs ≡ true → filter (λ x. not (p x)) xs ≡ []
none_kept p [] all = refl
none_kept {X} p (x ∷ xs) all =
    let both = and_parts (p x) (list_all p xs) all in
    ap (λ (b : Bool). cond (not b) (x ∷ filter (λ y. not (p y)) xs) (filter (λ y. not (p y)) xs)) both.0 ∙ none_kept p xs both.1
