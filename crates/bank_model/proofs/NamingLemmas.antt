-- Accounts that are put in order.
use Rattle.std.proofs.Common.{◌≡◌, ℕ, zero, suc, ◌+◌, ◌<◌, ◌≤◌, ◌⊎◌, inl, inr, Bool, true, false, cond, eqb, nat_lt, nat_le, List, [], ◌∷◌, ◌++◌, map, length, get_or, take, drop, Option, None, Some, refl, sym, ap, ◌∙◌, subst, arith}
use Rattle.std.proofs.Math.Seq.{take-length, drop-length}
use Rattle.std.proofs.lemmas.Bool.{eqb-true, eqb-false, eq-eqb, ne_eqb, ltb-true, lt-ltb, le-ltb, ltb-false, leb-true, leb-false}
use Rattle.std.proofs.lemmas.List.{take-append-drop}
use Rattle.std.proofs.lemmas.List.Sums.{fold-append, fails_before_first}
use Rattle.std.proofs.lemmas.List.Quantifiers.{position-Some}
use Rattle.std.specs.List.{AllByRecursion, Contains, flat_map, position, position_or_len, insert}
use Rattle.std.specs.List.Sorted.{IsStrictlyIncreasing}
use Rattle.ofx_types.specs.declared.number.AcctId.{AcctId}
use Rattle.bank_model.specs.Naming.{inserted, with_any, with_all}
use Rattle.bank_model.proofs.Lists.{rest_is}
use Rattle.bank_model.proofs.AccountNames.{same_number}

-- ---- they rise

-- Each number is below all those after it.
abbrev pub Rises : List AcctId → Type 0
Rises [] = Unit {0}
Rises (first ∷ more) = AllByRecursion (λ (other : AcctId). first.0 < other.0) more × Rises more

abbrev rank : AcctId → ℕ
rank account = account.0

rises_at : (n : ℕ) (xs : List ℕ) → ((k : ℕ) → k < length xs → n < get_or xs k 0) → IsStrictlyIncreasing xs → IsStrictlyIncreasing (n ∷ xs)
rises_at n xs first rest zero below = first 0 (omega arith)
rises_at n xs first rest (suc k) below =
    let next : suc (k + 1) ≡ suc k + 1 = omega arith in
    subst (λ (m : ℕ). get_or xs k 0 < get_or (n ∷ xs) m 0) next (rest k (omega arith))

above_at : (n : ℕ) (xs : List AcctId) → AllByRecursion (λ (other : AcctId). n < other.0) xs → (k : ℕ) → k < length (map rank xs) → n < get_or (map rank xs) k 0
above_at n [] all k below = absurd (omega arith)
above_at n (x ∷ xs) all zero below = all.0
above_at n (x ∷ xs) all (suc k) below = above_at n xs all.1 k (omega arith)

rises_by_index : (xs : List AcctId) → Rises xs → IsStrictlyIncreasing (map rank xs)
rises_by_index [] rises k below = absurd (omega arith)
rises_by_index (x ∷ xs) rises k below = rises_at x.0 (map rank xs) (above_at x.0 xs rises.0) (rises_by_index xs rises.1) k below

-- An account is put after the first of others, is the first, or comes before it.
abbrev put : Bool → Bool → AcctId → AcctId → List AcctId → List AcctId → List AcctId
put suffix is account x xs more = cond suffix (x ∷ more) (cond is (x ∷ xs) (account ∷ x ∷ xs))

all_put : (P : AcctId → Type 0) (suffix is : Bool) (account x : AcctId) (xs more : List AcctId) → P account → P x → AllByRecursion P xs → AllByRecursion P more → AllByRecursion P (put suffix is account x xs more)
all_put P true is account x xs more here first all all_more = (first, all_more)
all_put P false true account x xs more here first all all_more = (first, all)
all_put P false false account x xs more here first all all_more = (here, (first, all))

all_inserted : (P : AcctId → Type 0) (account : AcctId) (xs : List AcctId) → P account → AllByRecursion P xs → AllByRecursion P (inserted account xs)
all_inserted P account [] here all = (here, tt)
all_inserted P account (x ∷ xs) here all =
    all_put P (nat_lt x.0 account.0) (eqb x.0 account.0) account x xs (inserted account xs) here all.0 all.1 (all_inserted P account xs here all.1)

all_above : (a b : ℕ) (xs : List AcctId) → a < b → AllByRecursion (λ (other : AcctId). b < other.0) xs → AllByRecursion (λ (other : AcctId). a < other.0) xs
all_above a b [] less all = tt
all_above a b (x ∷ xs) less all = (omega (arith, less, all.0), all_above a b xs less all.1)

rises_put : (suffix is : Bool) (account x : AcctId) (xs : List AcctId) → nat_lt x.0 account.0 ≡ suffix → eqb x.0 account.0 ≡ is → Rises (x ∷ xs) → Rises (inserted account xs) → Rises (put suffix is account x xs (inserted account xs))
rises_put true is account x xs low same rises more = (all_inserted (λ (other : AcctId). x.0 < other.0) account xs (ltb-true x.0 account.0 low) rises.0, more)
rises_put false true account x xs low same rises more = rises
rises_put false false account x xs low same rises more =
    let high : account.0 ≤ x.0 = ltb-false x.0 account.0 low in
    let apart : x.0 ≡ account.0 → ⊥ = eqb-false x.0 account.0 same in
    let less : account.0 < x.0 = omega (arith, high, apart) in
    ((less, all_above account.0 x.0 xs less rises.0), rises)

rises_inserted : (account : AcctId) (xs : List AcctId) → Rises xs → Rises (inserted account xs)
rises_inserted account [] rises = (tt, tt)
rises_inserted account (x ∷ xs) rises =
    rises_put (nat_lt x.0 account.0) (eqb x.0 account.0) account x xs refl refl rises (rises_inserted account xs rises.1)

rises_any : (xs : List AcctId) (entry : Option AcctId) → Rises xs → Rises (with_any xs entry)
rises_any xs None rises = rises
rises_any xs (Some account) rises = rises_inserted account xs rises

rises_all : (xs : List AcctId) (named : List (Option AcctId)) → Rises xs → Rises (with_all xs named)
rises_all xs [] rises = rises
rises_all xs (entry ∷ named) rises = rises_all (with_any xs entry) named (rises_any xs entry rises)

-- What is put in order rises.
pub in_order : (named : List (Option AcctId)) → IsStrictlyIncreasing (map rank (with_all [] named))
in_order named = rises_by_index (with_all [] named) (rises_all [] named tt)

-- ---- just those that are named stand there

cons_here : {X : Type 0} (x : X) (xs : List X) → Contains (x ∷ xs) x
cons_here x xs = (0, omega arith, refl)

cons_there : {X : Type 0} (x : X) (xs : List X) (y : X) → Contains xs y → Contains (x ∷ xs) y
cons_there x xs y has = (suc has.0, omega (arith, has.1), has.2)

cons_cases : {X : Type 0} (x : X) (xs : List X) (y : X) → Contains (x ∷ xs) y → (x ≡ y) ⊎ Contains xs y
cons_cases x xs y has = by has.0 has.1 has.2
  where
    by : (k : ℕ) → k < length (x ∷ xs) → get_or (x ∷ xs) k y ≡ y → (x ≡ y) ⊎ Contains xs y
    by zero below is = inl is
    by (suc k) below is = inr (k, omega arith, is)

nil_has_none : {X : Type 0} (y : X) → Contains [] y → ⊥
nil_has_none y has = omega (arith, has.1)

put_here : (suffix is : Bool) (account x : AcctId) (xs more : List AcctId) → eqb x.0 account.0 ≡ is → Contains more account → Contains (put suffix is account x xs more) account
put_here true is account x xs more same has = cons_there x more account has
put_here false true account x xs more same has = subst (Contains (x ∷ xs)) (same_number x account (eqb-true x.0 account.0 same)) (cons_here x xs)
put_here false false account x xs more same has = cons_here account (x ∷ xs)

inserted_here : (account : AcctId) (xs : List AcctId) → Contains (inserted account xs) account
inserted_here account [] = cons_here account []
inserted_here account (x ∷ xs) = put_here (nat_lt x.0 account.0) (eqb x.0 account.0) account x xs (inserted account xs) refl (inserted_here account xs)

put_there : (suffix is : Bool) (account x y : AcctId) (xs more : List AcctId) → (Contains xs y → Contains more y) → Contains (x ∷ xs) y → Contains (put suffix is account x xs more) y
put_there true is account x y xs more keeps has = past (cons_cases x xs y has)
  where
    past : (x ≡ y) ⊎ Contains xs y → Contains (x ∷ more) y
    past (inl here) = subst (Contains (x ∷ more)) here (cons_here x more)
    past (inr there) = cons_there x more y (keeps there)
put_there false true account x y xs more keeps has = has
put_there false false account x y xs more keeps has = cons_there account (x ∷ xs) y has

inserted_there : (account y : AcctId) (xs : List AcctId) → Contains xs y → Contains (inserted account xs) y
inserted_there account y [] has = absurd (nil_has_none y has)
inserted_there account y (x ∷ xs) has = put_there (nat_lt x.0 account.0) (eqb x.0 account.0) account x y xs (inserted account xs) (inserted_there account y xs) has

put_only : (suffix is : Bool) (account x y : AcctId) (xs more : List AcctId) → (Contains more y → (account ≡ y) ⊎ Contains xs y) → Contains (put suffix is account x xs more) y → (account ≡ y) ⊎ Contains (x ∷ xs) y
put_only true is account x y xs more only has = past (cons_cases x more y has)
  where
    suffix : (account ≡ y) ⊎ Contains xs y → (account ≡ y) ⊎ Contains (x ∷ xs) y
    suffix (inl here) = inl here
    suffix (inr there) = inr (cons_there x xs y there)

    past : (x ≡ y) ⊎ Contains more y → (account ≡ y) ⊎ Contains (x ∷ xs) y
    past (inl here) = inr (subst (Contains (x ∷ xs)) here (cons_here x xs))
    past (inr there) = suffix (only there)
put_only false true account x y xs more only has = inr has
put_only false false account x y xs more only has = cons_cases account (x ∷ xs) y has

inserted_only : (account y : AcctId) (xs : List AcctId) → Contains (inserted account xs) y → (account ≡ y) ⊎ Contains xs y
inserted_only account y [] has = cons_cases account [] y has
inserted_only account y (x ∷ xs) has = put_only (nat_lt x.0 account.0) (eqb x.0 account.0) account x y xs (inserted account xs) (inserted_only account y xs) has

any_there : (y : AcctId) (xs : List AcctId) (entry : Option AcctId) → Contains xs y → Contains (with_any xs entry) y
any_there y xs None has = has
any_there y xs (Some account) has = inserted_there account y xs has

all_there : (y : AcctId) (xs : List AcctId) (named : List (Option AcctId)) → Contains xs y → Contains (with_all xs named) y
all_there y xs [] has = has
all_there y xs (entry ∷ named) has = all_there y (with_any xs entry) named (any_there y xs entry has)

pub named_holds : (y : AcctId) (xs : List AcctId) (named : List (Option AcctId)) → Contains named (Some y) → Contains (with_all xs named) y
named_holds y xs [] has = absurd (nil_has_none (Some y) has)
named_holds y xs (entry ∷ named) has = by (named_holds y (with_any xs entry) named) (cons_cases entry named (Some y) has)
  where
    by : (Contains named (Some y) → Contains (with_all (with_any xs entry) named) y) → (entry ≡ Some y) ⊎ Contains named (Some y) → Contains (with_all (with_any xs entry) named) y
    by later (inl is) = all_there y (with_any xs entry) named (subst (λ (e : Option AcctId). Contains (with_any xs e) y) (sym is) (inserted_here y xs))
    by later (inr more) = later more

any_only : (y : AcctId) (xs : List AcctId) (entry : Option AcctId) → Contains (with_any xs entry) y → (entry ≡ Some y) ⊎ Contains xs y
any_only y xs None has = inr has
any_only y xs (Some account) has = by (inserted_only account y xs has)
  where
    by : (account ≡ y) ⊎ Contains xs y → (Some account ≡ Some y) ⊎ Contains xs y
    by (inl is) = inl (ap (λ (a : AcctId). Some a) is)
    by (inr more) = inr more

all_only : (y : AcctId) (xs : List AcctId) (named : List (Option AcctId)) → Contains (with_all xs named) y → Contains xs y ⊎ Contains named (Some y)
all_only y xs [] has = inl has
all_only y xs (entry ∷ named) has = by (all_only y (with_any xs entry) named has)
  where
    here : (entry ≡ Some y) ⊎ Contains xs y → Contains xs y ⊎ Contains (entry ∷ named) (Some y)
    here (inl is) = inr (subst (Contains (entry ∷ named)) is (cons_here entry named))
    here (inr more) = inl more

    by : Contains (with_any xs entry) y ⊎ Contains named (Some y) → Contains xs y ⊎ Contains (entry ∷ named) (Some y)
    by (inl has_any) = here (any_only y xs entry has_any)
    by (inr more) = inr (cons_there entry named (Some y) more)

pub only_named : (y : AcctId) (named : List (Option AcctId)) → Contains (with_all [] named) y → Contains named (Some y)
only_named y named has = by (all_only y [] named has)
  where
    by : Contains [] y ⊎ Contains named (Some y) → Contains named (Some y)
    by (inl none) = absurd (nil_has_none y none)
    by (inr more) = more

-- ---- what is put in order has just those that are named, and rises

pub rising_of : (accounts : List AcctId) (named : List (Option AcctId)) → accounts ≡ with_all [] named → IsStrictlyIncreasing (map rank accounts)
rising_of accounts named is = subst (λ (l : List AcctId). IsStrictlyIncreasing (map rank l)) (sym is) (in_order named)

pub members_of : (accounts : List AcctId) (named : List (Option AcctId)) → accounts ≡ with_all [] named → (account : AcctId)
    → (Contains accounts account → Contains named (Some account)) × (Contains named (Some account) → Contains accounts account)
members_of accounts named is account = (
  (λ has. only_named account named (subst (λ (l : List AcctId). Contains l account) is has)),
  (λ has. subst (λ (l : List AcctId). Contains l account) (sym is) (named_holds account [] named has)),
)

-- ---- where it is put

abbrev pub is_not_below : AcctId → AcctId → Bool
is_not_below account other = nat_le account.0 other.0

inserted_past : (account : AcctId) (xs : List AcctId) (n : ℕ) → ((k : ℕ) (d : AcctId) → k < n → (get_or xs k d).0 < account.0) → n ≤ length xs → inserted account xs ≡ take n xs ++ inserted account (drop n xs)
inserted_past account [] zero below few = refl
inserted_past account [] (suc n) below few = absurd (omega arith)
inserted_past account (x ∷ xs) zero below few = refl
inserted_past account (x ∷ xs) (suc n) below few =
    rw (lt-ltb x.0 account.0 (below 0 x (omega arith)))
    (ap (λ (l : List AcctId). x ∷ l) (inserted_past account xs n (λ k d small. below (suc k) d (omega arith)) (omega arith)))

abbrev beside : AcctId → AcctId → List AcctId → List AcctId
beside account x more = cond (eqb x.0 account.0) (x ∷ more) (account ∷ x ∷ more)

inserted_before : (account x : AcctId) (more : List AcctId) → account.0 ≤ x.0 → inserted account (x ∷ more) ≡ beside account x more
inserted_before account x more low = rw (le-ltb x.0 account.0 low) refl

pub inserted_at : (account x : AcctId) (xs : List AcctId) (at : ℕ) → position (is_not_below account) xs ≡ Some at → x ≡ get_or xs at x → inserted account xs ≡ take at xs ++ beside account x (drop (at + 1) xs)
inserted_at account x xs at located is =
    let facts = position-Some (is_not_below account) xs at x located in
    let low = leb-true account.0 x.0 (ap (is_not_below account) is ∙ facts.1) in
    inserted_past account xs at (λ k d small. leb-false account.0 (get_or xs k d).0 ((position-Some (is_not_below account) xs at d located).2 k small)) (omega (arith, facts.0))
    ∙ ap (λ (l : List AcctId). take at xs ++ inserted account l) (rest_is xs at x facts.0 is)
    ∙ ap (λ (l : List AcctId). take at xs ++ l) (inserted_before account x (drop (at + 1) xs) low)

-- where it is already, all stays
pub inserted_same : (account x : AcctId) (xs seen : List AcctId) (found : Option ℕ) (at : ℕ) → found ≡ position (is_not_below account) seen → seen ≡ xs → found ≡ Some at → x ≡ get_or xs at x → x.0 ≡ account.0 → xs ≡ inserted account xs
inserted_same account x xs seen found at looked same is element equal =
    let located : position (is_not_below account) xs ≡ Some at = sym (looked ∙ ap (position (is_not_below account)) same) ∙ is in
    sym (take-append-drop at xs)
    ∙ ap (λ (l : List AcctId). take at xs ++ l) (rest_is xs at x (position-Some (is_not_below account) xs at x located).0 element)
    ∙ ap (λ (b : Bool). take at xs ++ cond b (x ∷ drop (at + 1) xs) (account ∷ x ∷ drop (at + 1) xs)) (sym (eq-eqb x.0 account.0 equal))
    ∙ sym (inserted_at account x xs at located element)

-- where it doesn't, it is put there
pub inserted_new : (account x : AcctId) (xs seen : List AcctId) (found : Option ℕ) (at : ℕ) → found ≡ position (is_not_below account) seen → seen ≡ xs → found ≡ Some at → x ≡ get_or xs at x → (x.0 ≡ account.0 → ⊥) → insert xs at account ≡ inserted account xs
inserted_new account x xs seen found at looked same is element apart =
    let located : position (is_not_below account) xs ≡ Some at = sym (looked ∙ ap (position (is_not_below account)) same) ∙ is in
    ap (λ (l : List AcctId). take at xs ++ account ∷ l) (rest_is xs at x (position-Some (is_not_below account) xs at x located).0 element)
    ∙ ap (λ (b : Bool). take at xs ++ cond b (x ∷ drop (at + 1) xs) (account ∷ x ∷ drop (at + 1) xs)) (sym (ne_eqb x.0 account.0 apart))
    ∙ sym (inserted_at account x xs at located element)

-- where all are below it, it comes last
pub inserted_last : (account : AcctId) (xs seen : List AcctId) (found : Option ℕ) → found ≡ position (is_not_below account) seen → seen ≡ xs → found ≡ None → xs ++ account ∷ [] ≡ inserted account xs
inserted_last account xs seen found looked same is =
    let none : position (is_not_below account) xs ≡ None = sym (looked ∙ ap (position (is_not_below account)) same) ∙ is in
    let far : length xs ≤ position_or_len (is_not_below account) xs = past (nat_lt (position_or_len (is_not_below account) xs) (length xs)) refl none in
    ap (λ (l : List AcctId). l ++ account ∷ []) (sym (take-length xs))
    ∙ ap (λ (l : List AcctId). take (length xs) xs ++ inserted account l) (sym (drop-length xs))
    ∙ sym (inserted_past account xs (length xs) (λ k d small. leb-false account.0 (get_or xs k d).0 (fails_before_first (is_not_below account) xs k d (omega (arith, far, small)))) (omega arith))
  where
    past : (b : Bool) → nat_lt (position_or_len (is_not_below account) xs) (length xs) ≡ b → cond b (Some (position_or_len (is_not_below account) xs)) None ≡ None → length xs ≤ position_or_len (is_not_below account) xs
    past true e none = cc
    past false e none = ltb-false (position_or_len (is_not_below account) xs) (length xs) e

-- ---- one ask more

pub named_more : {X : Type 0} (f : X → List (Option AcctId)) (accounts now : List AcctId) (all : List AcctId) (xs : List X) (k : ℕ) (x : X) → k < length xs → x ≡ get_or xs k x → now ≡ with_all accounts (f x) → with_all accounts (flat_map f (drop k xs)) ≡ all → with_all now (flat_map f (drop (k + 1) xs)) ≡ all
named_more {X = X} f accounts now all xs k x below is is_now so_far =
    ap (λ (l : List AcctId). with_all l (flat_map f (drop (k + 1) xs))) is_now
    ∙ sym (fold-append with_any accounts (f x) (flat_map f (drop (k + 1) xs)))
    ∙ ap (λ (l : List X). with_all accounts (flat_map f l)) (sym (rest_is xs k x below is))
    ∙ so_far
