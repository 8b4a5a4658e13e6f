-- What passes a test comes after what doesn't, where all after the first that passes do.
use Rattle.std.proofs.Common.{◌≡◌, ℕ, zero, suc, ◌+◌, ◌-◌, ◌≤◌, Bool, true, false, not, ◌&&◌, cond, nat_lt, List, [], ◌∷◌, ◌++◌, take, drop, filter, length, length-drop, Option, None, Some, refl, sym, ap, ◌∙◌, arith}
use Rattle.std.proofs.lemmas.Bool.{ltb-false}
use Rattle.std.proofs.lemmas.List.{take_all}
use Rattle.std.specs.List.{list_all, position, position_or_len}
use Rattle.bank_model.proofs.Lists.{IsLast, all_kept, none_kept, filter_passes}

drop_one : {X : Type 0} (n : ℕ) (x : X) (xs : List X) → drop (1 + n) (x ∷ xs) ≡ drop n xs
drop_one n x xs = let e : 1 + n ≡ suc n = omega arith in ap (λ (k : ℕ). drop k (x ∷ xs)) e

head_fails : {X : Type 0} (p : X → Bool) (xs : List X) (x : X) (prefix : List X) → filter (λ y. not (p y)) xs ≡ x ∷ prefix → p x ≡ false
head_fails p [] x prefix is = cc
head_fails {X} p (y ∷ ys) x prefix is = one (p y) refl is (head_fails p ys x prefix)
  where
    one : (b : Bool) → p y ≡ b → cond (not b) (y ∷ filter (λ z. not (p z)) ys) (filter (λ z. not (p z)) ys) ≡ x ∷ prefix → (filter (λ z. not (p z)) ys ≡ x ∷ prefix → p x ≡ false) → p x ≡ false
    one true here rest more = more rest
    one false here rest more = let same : x ≡ y = cc in ap p same ∙ here

after_first : {X : Type 0} (p : X → Bool) (x : X) (xs prefix : List X) → p x ≡ true → filter (λ y. not (p y)) xs ≡ prefix → x ∷ xs ≡ prefix ++ (x ∷ filter p xs) → list_all p xs ≡ true
after_first p x xs [] here none is = let rest : xs ≡ filter p xs = cc in ap (list_all p) rest ∙ filter_passes p xs
after_first p x xs (y ∷ prefix) here some is =
    let same : y ≡ x = cc in
    let fails : p y ≡ false = head_fails p xs y prefix some in
    let no : true ≡ false = sym here ∙ ap p (sym same) ∙ fails in
    cc

pub to_last : {X : Type 0} (p : X → Bool) (xs : List X) → list_all p (drop (position_or_len p xs) xs) ≡ true → IsLast p xs
to_last p [] all = refl
to_last {X} p (x ∷ xs) all = one (p x) refl all (to_last p xs)
  where
    one : (b : Bool) → p x ≡ b → list_all p (drop (cond (not b) (1 + position_or_len p xs) 0) (x ∷ xs)) ≡ true → (list_all p (drop (position_or_len p xs) xs) ≡ true → IsLast p xs) → x ∷ xs ≡ cond (not b) (x ∷ filter (λ y. not (p y)) xs) (filter (λ y. not (p y)) xs) ++ cond b (x ∷ filter p xs) (filter p xs)
    one true here all_pass more =
        let rest : list_all p xs ≡ true = sym (ap (λ (b : Bool). b && list_all p xs) here) ∙ all_pass in
        sym (ap (λ (l : List X). l ++ (x ∷ filter p xs)) (none_kept p xs rest) ∙ ap (λ (l : List X). x ∷ l) (all_kept p xs rest))
    one false here all_pass more = ap (λ (l : List X). x ∷ l) (more (ap (list_all p) (sym (drop_one (position_or_len p xs) x xs)) ∙ all_pass))

pub from_last : {X : Type 0} (p : X → Bool) (xs : List X) → IsLast p xs → list_all p (drop (position_or_len p xs) xs) ≡ true
from_last p [] is = refl
from_last {X} p (x ∷ xs) is = one (p x) refl is (from_last p xs)
  where
    one : (b : Bool) → p x ≡ b → x ∷ xs ≡ cond (not b) (x ∷ filter (λ y. not (p y)) xs) (filter (λ y. not (p y)) xs) ++ cond b (x ∷ filter p xs) (filter p xs) → (IsLast p xs → list_all p (drop (position_or_len p xs) xs) ≡ true) → list_all p (drop (cond (not b) (1 + position_or_len p xs) 0) (x ∷ xs)) ≡ true
    one true here last more = ap (λ (b : Bool). b && list_all p xs) here ∙ after_first p x xs (filter (λ y. not (p y)) xs) here refl last
    one false here last more = ap (list_all p) (drop_one (position_or_len p xs) x xs) ∙ more (let rest : xs ≡ filter (λ y. not (p y)) xs ++ filter p xs = cc in rest)

-- all that stands from a place on
pub all_after : {X : Type 0} (xs : List X) (at : ℕ) → take (length xs - at) (drop at xs) ≡ drop at xs
all_after xs at = take_all (length xs - at) (drop at xs) (omega (arith, length-drop at xs))

-- where it is first
offset_is : {X : Type 0} (p : X → Bool) (xs : List X) (at : ℕ) → position p xs ≡ Some at → position_or_len p xs ≡ at
offset_is p xs at is = first (nat_lt (position_or_len p xs) (length xs)) (position_or_len p xs) is
  where
    first : (b : Bool) (n : ℕ) → cond b (Some n) None ≡ Some at → n ≡ at
    first true n found = cc
    first false n found = cc

nothing_after : {X : Type 0} (xs : List X) (n : ℕ) → length xs ≤ n → drop n xs ≡ []
nothing_after [] zero past = refl
nothing_after [] (suc n) past = refl
nothing_after (x ∷ xs) zero past = absurd (omega arith)
nothing_after (x ∷ xs) (suc n) past = nothing_after xs n (omega arith)

pub found_last : {X : Type 0} (p : X → Bool) (xs : List X) (at : ℕ) (where_is : Option ℕ) → where_is ≡ position p xs → where_is ≡ Some at → (list_all p (drop at xs) ≡ true → IsLast p xs) × (IsLast p xs → list_all p (drop at xs) ≡ true)
found_last p xs at where_is looked is =
    let offset = offset_is p xs at (sym looked ∙ is) in
    ((λ all. to_last p xs (ap (λ (n : ℕ). list_all p (drop n xs)) offset ∙ all)), (λ last. ap (λ (n : ℕ). list_all p (drop n xs)) (sym offset) ∙ from_last p xs last))

pub none_last : {X : Type 0} (p : X → Bool) (xs : List X) (where_is : Option ℕ) → where_is ≡ position p xs → where_is ≡ None → IsLast p xs
none_last p xs where_is looked is = to_last p xs (ap (list_all p) (nothing_after xs (position_or_len p xs) (past (nat_lt (position_or_len p xs) (length xs)) refl (sym looked ∙ is))))
  where
    past : (b : Bool) → nat_lt (position_or_len p xs) (length xs) ≡ b → cond b (Some (position_or_len p xs)) None ≡ None → length xs ≤ position_or_len p xs
    past true e none = cc
    past false e none = ltb-false (position_or_len p xs) (length xs) e
