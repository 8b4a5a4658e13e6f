-- The fields so far, and one more.
use Rattle.std.proofs.Common.{◌≡◌, ℕ, ◌+◌, ◌-◌, ◌*◌, ◌^◌, ◌<◌, ◌≤◌, Bool, true, false, cond, List, [], ◌∷◌, ◌++◌, length, get_or, take, drop, map, filter, Option, Some, None, is_some, refl, sym, ap, ◌∙◌, arith}
use Rattle.std.specs.Char.{is_ascii_digit, digit_value}
use Rattle.std.specs.Prelude.{option_map}
use Rattle.std.specs.Option.{option_to_list}
use Rattle.std.specs.List.{list_all, list_any}
use Rattle.std.specs.Str.Parse.{digits_value}
use Rattle.std.proofs.lemmas.List.{take_more, take-append-drop, get_or-map, length-map}
use Rattle.std.proofs.lemmas.List.Folds.{list_any_at}
use Rattle.std.proofs.lemmas.List.Recursion.{and_at}
use Rattle.std.proofs.lemmas.Str.{digit_value_digit}
use Rattle.std.proofs.lemmas.Str.Parse.{digits_value_short, digits_value-take-le}
use Rattle.std.proofs.lemmas.Int.Digits.{digits_value_more}
use Rattle.ofx_types.proofs.Numbers.{digit_in, numerals}
use Rattle.http_front.specs.Fields.{is_named, values_of, only}

-- ---- values of one name

of_one : (b : Bool) (value : List ℕ) (field : List ℕ × List ℕ) (values : List (List ℕ × List ℕ)) →
    map (λ (x : List ℕ × List ℕ). x.1) (cond b (field ∷ values) values) ≡ cond b (field.1 ∷ []) [] ++ map (λ (x : List ℕ × List ℕ). x.1) values
of_one true value field values = refl
of_one false value field values = refl

pub values_cons : (name : List ℕ) (field : List ℕ × List ℕ) (fields : List (List ℕ × List ℕ)) →
    values_of name (field ∷ fields) ≡ cond (is_named name field) (field.1 ∷ []) [] ++ values_of name fields
values_cons name field fields = of_one (is_named name field) field.1 field (filter (is_named name) fields)

joined : (prefix : List (List ℕ)) (a b c : List (List ℕ)) → a ≡ b ++ c → prefix ++ a ≡ (prefix ++ b) ++ c
joined [] a b c e = e
joined (x ∷ prefix) a b c e = ap (λ (l : List (List ℕ)). x ∷ l) (joined prefix a b c e)

pub values_append : {S : Type 0} (name : List ℕ) (f : S → List ℕ × List ℕ) (xs ys : List S) →
    values_of name (map f (xs ++ ys)) ≡ values_of name (map f xs) ++ values_of name (map f ys)
values_append name f [] ys = refl
values_append name f (x ∷ xs) ys =
    values_cons name (f x) (map f (xs ++ ys)) ∙ joined _ _ _ _ (values_append name f xs ys) ∙ ap (λ (l : List (List ℕ)). l ++ values_of name (map f ys)) (sym (values_cons name (f x) (map f xs)))

one_of : {S : Type 0} (name : List ℕ) (f : S → List ℕ × List ℕ) (x : S) →
    values_of name (map f (x ∷ [])) ≡ cond (is_named name (f x)) ((f x).1 ∷ []) []
one_of name f x = values_cons name (f x) [] ∙ cases (is_named name (f x)) ((f x).1)
  where
    cases : (b : Bool) (value : List ℕ) → cond b (value ∷ []) [] ++ [] ≡ cond b (value ∷ []) []
    cases true value = refl
    cases false value = refl

-- one field more
pub values_more : {S : Type 0} (name : List ℕ) (f : S → List ℕ × List ℕ) (xs : List S) (i : ℕ) (d : S) → i < length xs →
    values_of name (map f (take (i + 1) xs)) ≡ values_of name (map f (take i xs)) ++ cond (is_named name (f (get_or xs i d))) ((f (get_or xs i d)).1 ∷ []) []
values_more name f xs i d h =
    ap (λ (l : List _). values_of name (map f l)) (take_more xs i d h) ∙ values_append name f (take i xs) (get_or xs i d ∷ []) ∙ ap (λ (l : List (List ℕ)). values_of name (map f (take i xs)) ++ l) (one_of name f (get_or xs i d))

-- a second one leaves none
pub values_twice : {S : Type 0} (name : List ℕ) (f : S → List ℕ × List ℕ) (xs : List S) (i : ℕ) (d : S) (value : List ℕ) → i < length xs →
    values_of name (map f (take i xs)) ≡ value ∷ [] → is_named name (f (get_or xs i d)) ≡ true → only (values_of name (map f xs)) ≡ None
values_twice name f xs i d value h one named =
    let prefix : values_of name (map f (take (i + 1) xs)) ≡ value ∷ (f (get_or xs i d)).1 ∷ [] =
    values_more name f xs i d h ∙ rw (one, named) refl in
    let whole : values_of name (map f xs) ≡ value ∷ (f (get_or xs i d)).1 ∷ values_of name (map f (drop (i + 1) xs)) =
    ap (λ (l : List _). values_of name (map f l)) (sym (take-append-drop (i + 1) xs)) ∙ values_append name f (take (i + 1) xs) (drop (i + 1) xs) ∙ rw prefix refl in
    rw whole refl

-- ---- digits

-- 9 digits stay below 10 ^ 9, and so do the first of them
pub value_small : (ds : List ℕ) (i : ℕ) → list_all is_ascii_digit ds ≡ true → length ds ≤ 9 → digits_value 10 (take i ds) < 10 ^ 9
value_small ds i digits few = omega (arith, digits_value-take-le 10 ds i (omega arith), digits_value_short numerals ds 9 digits few)

-- one digit more
pub value_step : (ds : List ℕ) (i : ℕ) → i < length ds → list_all is_ascii_digit ds ≡ true → (10 * digits_value 10 (take i ds) + (get_or ds i 0 - 48) ≡ digits_value 10 (take (i + 1) ds)) × (48 ≤ get_or ds i 0)
value_step ds i lt digits =
    let digit : is_ascii_digit (get_or ds i 0) ≡ true = and_at (list_all is_ascii_digit) is_ascii_digit refl (λ _ _. refl) ds i 0 lt digits in
    let value : digit_value (get_or ds i 0) + 48 ≡ get_or ds i 0 = digit_value_digit (get_or ds i 0) (digit_in _ digit) in
    (omega (arith, digits_value_more 10 ds i lt, value), omega (arith, value))

-- ---- one field that passes a test

pub any_at : {S : Type 0} (test : List ℕ × List ℕ → Bool) (f : S → List ℕ × List ℕ) (xs : List S) (i : ℕ) (d : S) → i < length xs → test (f (get_or xs i d)) ≡ true → true ≡ list_any test (map f xs)
any_at test f xs i d h passes =
    sym (list_any_at test (map f xs) i (f d) (omega (arith, length-map xs f)) (ap test (get_or-map f xs i d (f d) h) ∙ passes))

-- a second one of a name leaves none
pub values_after : {S V : Type 0} (name : List ℕ) (f : S → List ℕ × List ℕ) (now : V → List ℕ) (xs : List S) (i : ℕ) (d : S) (found : Option V) → i < length xs → is_some found ≡ true →
    values_of name (map f (take i xs)) ≡ option_to_list (option_map now found) → is_named name (f (get_or xs i d)) ≡ true → None ≡ only (values_of name (map f xs))
values_after name f now xs i d None h some so_far named = cc
values_after name f now xs i d (Some value) h some so_far named = sym (values_twice name f xs i d (now value) h so_far named)
