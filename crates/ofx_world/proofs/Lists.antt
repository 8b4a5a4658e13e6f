-- Lists of which something holds of each element, and of which one element changes.
use Rattle.std.proofs.Common.{◌≡◌, ℕ, zero, suc, ◌⊎◌, inl, inr, Bool, true, false, cond, List, [], ◌∷◌, set, get_or, slice_get, Option, None, Some, refl, sym, ap, subst, ◌∙◌}
use Rattle.std.specs.List.{All, find, filter}
use Rattle.std.specs.Option.{IfSome}
use Rattle.std.proofs.lemmas.Bool.{true≢false}
use Rattle.std.proofs.lemmas.Option.{slice_get_within, get_or_from_slice_get, slice_get-get_or}

pub same_some : {X : Type 0} (a b : X) → Some a ≡ Some b → a ≡ b
same_some a b same = cc

pub none_some : {X : Type 0} (x : X) → None ≡ Some x → ⊥
none_some x same = cc

-- ---- what holds of each

pub some_weaker : {X : Type 0} (P Q : X → Type 0) (found : Option X) → ((x : X) → P x → Q x) → IfSome found P → IfSome found Q
some_weaker P Q None step is = tt
some_weaker P Q (Some x) step is = step x is

pub at_all : {X : Type 0} (P : X → Type 0) (xs : List X) (k : ℕ) (x : X) → All P xs → slice_get xs k ≡ Some x → P x
at_all P xs k x all there = subst P (get_or_from_slice_get xs k x x there) (all k x (slice_get_within xs k x there))

pub all_on : {X : Type 0} (P Q : X → Type 0) (xs : List X) → ((k : ℕ) (x : X) → slice_get xs k ≡ Some x → P x → Q x) → All P xs → All Q xs
all_on P Q xs step all = λ k d below. step k (get_or xs k d) (slice_get-get_or xs k d below) (all k d below)

-- ---- one element changes

pub got_new : {X : Type 0} (xs : List X) (i : ℕ) (old new : X) → slice_get xs i ≡ Some old → slice_get (set xs i new) i ≡ Some new
got_new [] i old new there = absurd (none_some old there)
got_new (x ∷ xs) zero old new there = refl
got_new (x ∷ xs) (suc i) old new there = got_new xs i old new there

-- What is in the changed list is what was there, or the new element at its place.
pub got : {X : Type 0} (xs : List X) (i j : ℕ) (new x : X) → slice_get (set xs i new) j ≡ Some x → ((j ≡ i) × (new ≡ x)) ⊎ (slice_get xs j ≡ Some x)
got [] i j new x there = inr there
got (y ∷ xs) zero zero new x there = inl (refl, same_some new x there)
got (y ∷ xs) zero (suc j) new x there = inr there
got (y ∷ xs) (suc i) zero new x there = inr there
got (y ∷ xs) (suc i) (suc j) new x there = elim (got xs i j new x there) as (λ w. ((suc j ≡ suc i) × (new ≡ x)) ⊎ (slice_get xs j ≡ Some x)) [
  | inl same ↦ inl (ap suc same.0, same.1)
  | inr other ↦ inr other
]

-- What was there still is, or was the old element at its place.
pub stays_there : {X : Type 0} (xs : List X) (i j : ℕ) (new x : X) → slice_get xs j ≡ Some x → (j ≡ i) ⊎ (slice_get (set xs i new) j ≡ Some x)
stays_there [] i j new x there = inr there
stays_there (y ∷ xs) zero zero new x there = inl refl
stays_there (y ∷ xs) zero (suc j) new x there = inr there
stays_there (y ∷ xs) (suc i) zero new x there = inr there
stays_there (y ∷ xs) (suc i) (suc j) new x there = elim (stays_there xs i j new x there) as (λ w. (suc j ≡ suc i) ⊎ (slice_get (set xs i new) j ≡ Some x)) [
  | inl same ↦ inl (ap suc same)
  | inr other ↦ inr other
]

pub set_same : {X : Type 0} (xs : List X) (i : ℕ) (x : X) → slice_get xs i ≡ Some x → set xs i x ≡ xs
set_same [] i x there = refl
set_same {X} (y ∷ xs) zero x there = ap (λ (z : X). z ∷ xs) (sym (same_some y x there))
set_same {X} (y ∷ xs) (suc i) x there = ap (λ (zs : List X). y ∷ zs) (set_same xs i x there)

-- ---- what is found

-- What a filter leaves out isn't found before either.
pub find_filtered : {X : Type 0} (p q : X → Bool) (xs : List X) → ((x : X) → p x ≡ true → q x ≡ true) → find p (filter q xs) ≡ find p xs
find_filtered p q [] step = refl
find_filtered {X} p q (x ∷ xs) step = by_cases (p x) (q x) refl refl (step x) (find_filtered p q xs step)
  where
    by_cases : (b c : Bool) → p x ≡ b → q x ≡ c → (p x ≡ true → q x ≡ true) → find p (filter q xs) ≡ find p xs → find p (cond (q x) (x ∷ filter q xs) (filter q xs)) ≡ cond (p x) (Some x) (find p xs)
    by_cases true true is_p is_q next rest = rw (is_q, is_p) refl
    by_cases true false is_p is_q next rest = absurd (true≢false (sym (next is_p) ∙ is_q))
    by_cases false true is_p is_q next rest = rw (is_q, is_p) rest
    by_cases false false is_p is_q next rest = rw (is_q, is_p) rest
