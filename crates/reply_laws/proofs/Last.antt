-- What passes a test comes after what doesn't: that is seen by what each element says to the test alone.
use Rattle.std.proofs.Common.{◌≡◌, Bool, true, false, not, cond, List, [], ◌∷◌, ◌++◌, filter, map, refl, sym, ap, ◌∙◌}
use Rattle.std.specs.List.{list_all}
use Rattle.std.proofs.lemmas.Bool.{and_parts, and_from, true≢false}
use Rattle.std.proofs.lemmas.List.Folds.{list_all-map}
use Rattle.bank_model.proofs.Lists.{IsLast, all_kept, none_kept, filter_passes}

all_last : {X : Type 0} (p : X → Bool) (xs : List X) → list_all p xs ≡ true → IsLast p xs
all_last {X} p xs all = sym (ap (λ (l : List X). l ++ filter p xs) (none_kept p xs all) ∙ all_kept p xs all)

fails_not : (b : Bool) → not b ≡ true → b ≡ true → ⊥
fails_not b fails passes = true≢false (sym fails ∙ ap not passes)

-- after the first that passes all do
all_after : {X : Type 0} (p : X → Bool) (x : X) (xs prefix back : List X) → x ∷ xs ≡ prefix ++ back → list_all (λ y. not (p y)) prefix ≡ true → list_all p back ≡ true → p x ≡ true → list_all p xs ≡ true
all_after p x xs [] back is fail pass here = (and_parts (p x) (list_all p xs) (ap (list_all p) is ∙ pass)).1
all_after p x xs (y ∷ prefix) back is fail pass here =
    let same : x ≡ y = cc in
    let fails = and_parts (not (p y)) (list_all (λ z. not (p z)) prefix) fail in
    absurd (fails_not (p y) fails.0 (sym (ap p same) ∙ here))

said : {X : Type 0} (p : X → Bool) (xs : List X) → list_all p xs ≡ list_all (λ (b : Bool). b) (map p xs)
said p xs = sym (list_all-map (λ (b : Bool). b) p xs)

pub last_alike : {X Y : Type 0} (p : X → Bool) (q : Y → Bool) (xs : List X) (ys : List Y) → map p xs ≡ map q ys → IsLast p xs → IsLast q ys
last_alike p q [] [] same last = refl
last_alike p q [] (y ∷ ys) same last = absurd cc
last_alike p q (x ∷ xs) [] same last = absurd cc
last_alike {X} {Y} p q (x ∷ xs) (y ∷ ys) same last = one (p x) refl last (last_alike p q xs ys rest)
  where
    first : p x ≡ q y
    first = cc

    rest : map p xs ≡ map q ys
    rest = cc

    one : (b : Bool) → p x ≡ b → x ∷ xs ≡ cond (not b) (x ∷ filter (λ z. not (p z)) xs) (filter (λ z. not (p z)) xs) ++ cond b (x ∷ filter p xs) (filter p xs) → (IsLast p xs → IsLast q ys) → IsLast q (y ∷ ys)
    one true here holds shorter =
        let kept : list_all p (x ∷ filter p xs) ≡ true = and_from (p x) (list_all p (filter p xs)) here (filter_passes p xs) in
        let suffix : list_all p xs ≡ true = all_after p x xs (filter (λ z. not (p z)) xs) (x ∷ filter p xs) holds (filter_passes (λ z. not (p z)) xs) kept here in
        let others : list_all q ys ≡ true = said q ys ∙ ap (list_all (λ (b : Bool). b)) (sym rest) ∙ sym (said p xs) ∙ suffix in
        all_last q (y ∷ ys) (and_from (q y) (list_all q ys) (sym first ∙ here) others)
    one false here holds shorter =
        let suffix : IsLast p xs = cc in
        let no : q y ≡ false = sym first ∙ here in
        rw no (ap (λ (l : List Y). y ∷ l) (shorter suffix))
