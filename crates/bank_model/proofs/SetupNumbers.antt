-- Numbers without leading zeros.
use Rattle.std.proofs.Common.{◌≡◌, ℕ, ◌+◌, ◌-◌, ◌*◌, ◌^◌, ◌<◌, ◌≤◌, ◌⊎◌, Bool, true, false, cond, ◌&&◌, eqb, ltb, List, [], ◌∷◌, length, get_or, take, Some, refl, sym, ap, ◌∙◌, arith, inl, inr}
use Rattle.std.specs.Char.{is_ascii_digit, digit_value}
use Rattle.std.specs.Fmt.{decimal}
use Rattle.std.specs.List.{list_all}
use Rattle.std.specs.Str.{all_ascii_digits}
use Rattle.std.specs.Str.Parse.{digits_value}
use Rattle.std.proofs.lemmas.Bool.{not_from_false, and_from, cases_lt, ne_eqb, le-ltb, ltb-false, eqb-true, eqb-false, eq-eqb}
use Rattle.std.proofs.lemmas.List.Recursion.{and_at}
use Rattle.std.proofs.lemmas.Str.Parse.{IsNumeralModel, numerals_by_value, tells_all_ascii_digits, digits_value_short}
use Rattle.std.proofs.lemmas.Str.{digit_value_digit}
use Rattle.std.proofs.lemmas.Int.Digits.{digits_value_more}
use Rattle.std.proofs.lemmas.Str.Parse.{digits_value-take-le}
use Rattle.std.proofs.lemmas.Fmt.{digits_decimal, digits_value-decimal, length-decimal-le, first_decimal, decimal-digits_value, decimal_nonempty, decimal_digit}
use Rattle.ofx_types.proofs.Numbers.{digit_in}
use Rattle.bank_model.specs.SetupReading.{unless, is_number_form, number_of, number_within}
use Rattle.bank_model.proofs.SetupWords.{bind_some, unless_some, chosen_some, some_is, is_free}

-- one test of digits is the other
digits_test : (ds : List ℕ) → list_all is_ascii_digit ds ≡ all_ascii_digits ds
digits_test [] = refl
digits_test (d ∷ ds) = ap (λ (t : Bool). is_ascii_digit d && t) (digits_test ds)

abbrev AreDigits : List ℕ → Type 0
AreDigits ds = all_ascii_digits ds ≡ true

own : IsNumeralModel AreDigits (digits_value 10)
own = numerals_by_value AreDigits tells_all_ascii_digits

are_digits : (ds : List ℕ) → list_all is_ascii_digit ds ≡ true → AreDigits ds
are_digits ds h = sym (digits_test ds) ∙ h

-- 13 digits stay below 10 ^ 13, and so do the first of them
pub value_small : (ds : List ℕ) (i : ℕ) → list_all is_ascii_digit ds ≡ true → length ds ≤ 13 → digits_value 10 (take i ds) < 10 ^ 13
value_small ds i digits few = omega (arith, digits_value-take-le 10 ds i (omega arith), digits_value_short own ds 13 (are_digits ds digits) few)

-- one digit more
pub value_step : (ds : List ℕ) (i : ℕ) → i < length ds → list_all is_ascii_digit ds ≡ true → (digits_value 10 (take i ds) * 10 + (get_or ds i 0 - 48) ≡ digits_value 10 (take (i + 1) ds)) × (48 ≤ get_or ds i 0)
value_step ds i lt digits =
    let digit : is_ascii_digit (get_or ds i 0) ≡ true = and_at (list_all is_ascii_digit) is_ascii_digit refl (λ _ _. refl) ds i 0 lt digits in
    let value : digit_value (get_or ds i 0) + 48 ≡ get_or ds i 0 = digit_value_digit (get_or ds i 0) (digit_in _ digit) in
    (omega (arith, digits_value_more 10 ds i lt, value), omega (arith, value))

-- what the test of a number says
record IsNumber (word : List ℕ) : Type 0 where
  pub digits : AreDigits word
  pub some : 0 < length word
  pub few : length word ≤ 13
  pub lead : get_or word 0 0 ≡ 48 → length word ≡ 1

which : (long lead short rest : Bool) → cond long false (cond lead short rest) ≡ true → (long ≡ false) × (((lead ≡ true) × (short ≡ true)) ⊎ ((lead ≡ false) × (rest ≡ true)))
which true lead short rest h = absurd cc
which false true short rest h = (refl, inl (refl, h))
which false false short rest h = (refl, inr (refl, h))

number_parts : (word : List ℕ) → is_number_form word ≡ true → IsNumber word
number_parts [] h = absurd cc
number_parts (b ∷ []) h =
    let some : eqb (length (b ∷ [])) 0 ≡ false = refl in
    let tests = which (ltb 13 (length (b ∷ []))) (eqb b 48) (eqb (length (b ∷ [])) 1) (list_all is_ascii_digit (b ∷ [])) h in
    let digits : AreDigits (b ∷ []) = elim tests.1 [
      | inl lead ↦ let is_zero : b ≡ 48 = eqb-true b 48 lead.0 in rw is_zero refl
      | inr others ↦ are_digits (b ∷ []) others.1
    ] in
    record { digits = digits; some = omega arith; few = omega arith; lead = λ _. refl }
number_parts (b ∷ d ∷ ds) h =
    let some : eqb (length (b ∷ d ∷ ds)) 0 ≡ false = ne_eqb _ _ (λ e. omega (arith, e)) in
    let tests = which (ltb 13 (length (b ∷ d ∷ ds))) (eqb b 48) (eqb (length (b ∷ d ∷ ds)) 1) (list_all is_ascii_digit (b ∷ d ∷ ds)) (rw some at h) in
    elim tests.1 [
      | inl lead ↦ absurd (omega (arith, eqb-true (length (b ∷ d ∷ ds)) 1 lead.1))
      | inr others ↦ record {
        digits = are_digits (b ∷ d ∷ ds) others.1;
        some = omega arith;
        few = ltb-false 13 _ tests.0;
        lead = λ is_zero. absurd (eqb-false b 48 others.0 is_zero);
      }
    ]

number_passes : (word : List ℕ) → IsNumber word → is_number_form word ≡ true
number_passes word n =
    let some : eqb (length word) 0 ≡ false = ne_eqb _ _ (λ e. omega (arith, n.some, e)) in
    let few : ltb 13 (length word) ≡ false = le-ltb _ _ n.few in
    let all : list_all is_ascii_digit word ≡ true = digits_test word ∙ n.digits in
    rw (some, few) (by_lead (eqb (get_or word 0 0) 48) refl all n.lead)
  where
    by_lead : (t : Bool) → eqb (get_or word 0 0) 48 ≡ t → list_all is_ascii_digit word ≡ true → (get_or word 0 0 ≡ 48 → length word ≡ 1) → cond (eqb (get_or word 0 0) 48) (eqb (length word) 1) (list_all is_ascii_digit word) ≡ true
    by_lead true e all lead = rw e (eq-eqb _ _ (lead (eqb-true _ 48 e)))
    by_lead false e all lead = rw e all

-- what is read is the number's text
pub number_back : (word : List ℕ) (n : ℕ) → number_of word ≡ Some n → (word ≡ decimal n) × (n < 10 ^ 13)
unfolding number_of
number_back word n h =
    let test = chosen_some (is_number_form word) (digits_value 10 word) n h in
    let parts = number_parts word test.0 in
    let small : digits_value 10 word < 10 ^ 13 = digits_value_short own word 13 parts.digits parts.few in
    let text : decimal (digits_value 10 word) ≡ word = decimal-digits_value own word parts.digits parts.some parts.lead (omega (arith, small)) in
    (sym text ∙ ap decimal test.1, omega (arith, small, test.1))

decimal_number : (n : ℕ) → n < 10 ^ 13 → IsNumber (decimal n)
decimal_number n small =
    let fits : n < 2 ^ 64 = omega (arith, small) in
    record {
      digits = digits_decimal own n fits;
      some = decimal_nonempty n fits;
      few = length-decimal-le 13 n (omega arith) small fits;
      lead = λ e. elim (cases_lt 0 n) [
        | inl above ↦ absurd (omega (arith, first_decimal n above fits, e))
        | inr below ↦ let none : n ≡ 0 = omega arith in rw none (ap length (decimal_digit 0 (omega arith)))
      ];
    }

-- the number's text is read
pub number_there : (n : ℕ) → n < 10 ^ 13 → number_of (decimal n) ≡ Some n
unfolding number_of
number_there n small = rw (number_passes (decimal n) (decimal_number n small), digits_value-decimal own n (omega (arith, small))) refl

-- a number within its limits
pub within_back : (lowest highest : ℕ) (word : List ℕ) (n : ℕ) → number_within lowest highest word ≡ Some n → (word ≡ decimal n) × (lowest ≤ n) × (n ≤ highest)
unfolding number_within
within_back lowest highest word n h =
    let a = bind_some (number_of word) (λ m. unless (ltb m lowest) (unless (ltb highest m) (Some m))) n h in
    let low = unless_some (ltb a.0 lowest) _ n a.2 in
    let high = unless_some (ltb highest a.0) _ n low.1 in
    let same : a.0 ≡ n = some_is a.0 n high.1 in
    let text = number_back word a.0 a.1 in
    (text.0 ∙ ap decimal same, omega (arith, ltb-false _ _ low.0, same), omega (arith, ltb-false _ _ high.0, same))

pub within_there : (lowest highest n : ℕ) → lowest ≤ n → n ≤ highest → n < 10 ^ 13 → number_within lowest highest (decimal n) ≡ Some n
unfolding number_within
within_there lowest highest n low high small =
    let above : ltb n lowest ≡ false = le-ltb _ _ low in
    let below : ltb highest n ≡ false = le-ltb _ _ high in
    rw (number_there n small, above, below) refl

-- no space, LF or CR is in a number
pub digits_free : (mark : ℕ) (ds : List ℕ) → mark < 48 → AreDigits ds → is_free mark ds ≡ true
digits_free mark [] low h = refl
digits_free mark (d ∷ ds) low h =
    let parts = tells_all_ascii_digits.parts d ds h in
    and_from _ _ (not_from_false _ (ne_eqb d mark (λ e. omega (arith, parts.0, e)))) (digits_free mark ds low parts.1)

pub decimal_free : (mark n : ℕ) → mark < 48 → n < 10 ^ 13 → is_free mark (decimal n) ≡ true
decimal_free mark n low small = digits_free mark (decimal n) low (decimal_number n small).digits
