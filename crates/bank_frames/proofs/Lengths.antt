-- The texts of lengths, and the lines that have them.
use Rattle.std.proofs.Common.{◌≡◌, ◌≢◌, ℕ, ◌<◌, ◌≤◌, List, length, get_or, Bool, true, false, cond, None, Some, zero, suc, slice_index, arith, rules, ap, sym}
use Rattle.std.specs.Str.{all_ascii_digits}
use Rattle.std.specs.Fmt.{decimal}
use Rattle.std.proofs.lemmas.Str.Parse.{IsNumeralModel, numerals_by_fold, tells_all_ascii_digits, not_in_digits}
use Rattle.std.proofs.lemmas.Fmt.{digits_decimal, digits_value-decimal, length-decimal-le, decimal_nonempty, first_decimal, decimal_digit, decimal-digits_value}
use Rattle.bank_frames.specs.Frames.{length_line}
use Rattle.bank_frames.specs.FirstLine.{number_from, MayBeLength}

own : IsNumeralModel (λ ds. all_ascii_digits ds ≡ true) (number_from 0)
own = numerals_by_fold _ tells_all_ascii_digits number_from (search rules)

-- the text of a length has its form, and stands for it
pub record IsText (digits : List ℕ) (n : ℕ) : Type 0 where
  pub form : MayBeLength digits
  pub all_digits : all_ascii_digits digits ≡ true
  pub value : number_from 0 digits ≡ n

lead_of : (n : ℕ) → n ≤ 99999999 → slice_index (decimal n) 0 ≡ 48 → length (decimal n) ≡ 1
lead_of zero h zero_first = ap length (decimal_digit 0 (omega arith))
lead_of (suc n) h zero_first = absurd (omega (arith, first_decimal (suc n) (omega arith) (omega arith), zero_first))

pub text_of_length : (n : ℕ) → n ≤ 99999999 → IsText (decimal n) n
text_of_length n h = record {
  form = record {
    there = decimal_nonempty n (omega arith);
    short = length-decimal-le 8 n (omega arith) (omega arith) (omega arith);
    lead = lead_of n h;
  };
  all_digits = digits_decimal own n (omega arith);
  value = digits_value-decimal own n (omega arith);
}

-- bytes that are the text of a length
pub is_text : (digits : List ℕ) (n : ℕ) → n ≤ 99999999 → digits ≡ decimal n → IsText digits n
is_text digits n h e = rw e (text_of_length n h)

pub length_of_text : (digits : List ℕ) → MayBeLength digits → all_ascii_digits digits ≡ true → number_from 0 digits ≤ 99999999 → digits ≡ decimal (number_from 0 digits)
length_of_text digits form all small = sym (decimal-digits_value own digits all form.there form.lead (omega arith))

-- no number is read only of what isn't all digits
pub no_digits : (all : Bool) (n : ℕ) → None ≡ cond all (Some n) None → all ≡ true → ⊥
no_digits true n h t = cc
no_digits false n h t = cc

-- no LF is in the line of a length
pub no_line_feed : (n k : ℕ) → n ≤ 99999999 → k < length (length_line n) → get_or (length_line n) k 0 ≢ 10
no_line_feed n zero small h e = absurd (omega (arith, e))
no_line_feed n (suc zero) small h e = absurd (omega (arith, e))
no_line_feed n (suc (suc zero)) small h e = absurd (omega (arith, e))
no_line_feed n (suc (suc (suc zero))) small h e = absurd (omega (arith, e))
no_line_feed n (suc (suc (suc (suc zero)))) small h e = absurd (omega (arith, e))
no_line_feed n (suc (suc (suc (suc (suc k))))) small h e =
    not_in_digits own (decimal n) 10 (digits_decimal own n (omega arith)) (λ within. omega (arith, within)) k (omega (arith, h)) e
