-- The digits at the start of a text, and the number that digits stand for.
use Rattle.std.proofs.Common.{◌≡◌, ℕ, ◌+◌, ◌-◌, ◌*◌, ◌^◌, ◌<◌, ◌≤◌, true, false, List, [], ◌∷◌, ◌++◌, length, get_or, take, refl, sym, ap, ◌∙◌, arith, add-one}
use Rattle.std.specs.Char.{is_ascii_digit, digit_value}
use Rattle.std.specs.List.{list_all, prefix_len}
use Rattle.std.specs.Int.{IsInRange}
use Rattle.std.specs.Str.Parse.{digits_value}
use Rattle.std.proofs.Math.Nat.{pow-suc, pow-le-pow_right}
use Rattle.std.proofs.lemmas.Bool.{cond_both, cond-true, cond-false, and_from, and_parts}
use Rattle.std.proofs.lemmas.Bool.Decides.{nat_tests}
use Rattle.std.proofs.lemmas.Int.Digits.{digits_value_more}
use Rattle.std.proofs.lemmas.List.{take-append-drop, length-take, take_min}
use Rattle.std.proofs.lemmas.List.Recursion.{and_at}
use Rattle.std.proofs.lemmas.List.Sums.{take_while-cons}
use Rattle.ofx_types.specs.AmountReading.{prefix_digits, after_digits}
use Rattle.ofx_values.proofs.PartLemmas.{digit_in}

-- the digits at the start are digits
pub prefix_all : (text : List ℕ) → list_all is_ascii_digit (prefix_digits text) ≡ true
prefix_all [] = refl
prefix_all (b ∷ rest) =
    rw (take_while-cons is_ascii_digit b rest) (cond_both (is_ascii_digit b) (b ∷ prefix_digits rest) [] (λ t. list_all is_ascii_digit t ≡ true) (λ digit. and_from _ _ digit (prefix_all rest)) (λ _. refl))

pub prefix_take : (text : List ℕ) → take (length (prefix_digits text)) text ≡ prefix_digits text
prefix_take text =
    let n = prefix_len is_ascii_digit text in
    ap (λ (k : ℕ). take k text) (length-take n text) ∙ take_min n text

-- what is left of them and after them is the text
pub prefix_split : (text : List ℕ) → text ≡ prefix_digits text ++ after_digits text
prefix_split text =
    sym (take-append-drop (length (prefix_digits text)) text) ∙ ap (λ (t : List ℕ). t ++ after_digits text) (prefix_take text)

-- digits before what is no digit are the digits at the start
pub prefix_again : (digits rest : List ℕ) → list_all is_ascii_digit digits ≡ true → is_ascii_digit (get_or rest 0 0) ≡ false → prefix_digits (digits ++ rest) ≡ digits
prefix_again [] [] all none = refl
prefix_again [] (b ∷ rest) all none = take_while-cons is_ascii_digit b rest ∙ cond-false _ _ _ none
prefix_again (d ∷ digits) rest all none =
    let both = and_parts _ _ all in
    take_while-cons is_ascii_digit d (digits ++ rest) ∙ (cond-true _ _ _ both.0 ∙ ap (λ (t : List ℕ). d ∷ t) (prefix_again digits rest both.1 none))

pub digit_at : (digits : List ℕ) (i : ℕ) → list_all is_ascii_digit digits ≡ true → i < length digits → IsInRange 48 57 (get_or digits i 0)
digit_at digits i all h = digit_in _ (and_at (list_all is_ascii_digit) is_ascii_digit refl (λ _ _. refl) digits i 0 h all)

pub digit_value_is : (b : ℕ) → IsInRange 48 57 b → digit_value b ≡ b - 48
digit_value_is b h = grind (arith, nat_tests)

-- one digit more
pub number_more : (digits : List ℕ) (i : ℕ) → list_all is_ascii_digit digits ≡ true → i < length digits → digits_value 10 (take (i + 1) digits) ≡ 10 * digits_value 10 (take i digits) + (get_or digits i 0 - 48)
number_more digits i all h =
    omega (arith, digits_value_more 10 digits i h, digit_value_is (get_or digits i 0) (digit_at digits i all h))

pub power_more : (i value digit : ℕ) → value < 10 ^ i → digit < 10 → 10 * value + digit < 10 ^ (i + 1)
power_more i value digit h k = rw add-one (omega (arith, pow-suc 10 i))

pub power_room : (i value : ℕ) → value < 10 ^ i → i ≤ 32 → value < 10 ^ 32
power_room i value h k = omega (arith, pow-le-pow_right {n = 10} (omega arith) k)
