-- A value is read as it is, since it is trimmed already, and a long one is no amount, moment, number or id.
use Rattle.std.proofs.Common.{◌≡◌, ℕ, ◌<◌, ◌≤◌, ℤ, Bool, true, false, ◌&&◌, nat_lt, List, length, position, Option, None, Some, is_none, refl, sym, ap, ◌∙◌, arith}
use Rattle.std.proofs.lemmas.Grind.{common_steps}
use Rattle.std.proofs.Math.Bool.{and-false}
use Rattle.ofx_types.specs.TextRules.{trimmed, is_refused_in_text}
use Rattle.ofx_types.specs.TextOutcome.{refused_at}
use Rattle.ofx_types.specs.FormWords.{is_text_within}
use Rattle.ofx_types.specs.ValueForm.{value_of, decoded}
use Rattle.ofx_types.specs.AmountReading.{amount_at}
use Rattle.ofx_types.specs.DateReading.{moment_at}
use Rattle.ofx_types.specs.NumberReading.{number_at}
use Rattle.ofx_types.proofs.Trimming.{trimmed-again}
use Rattle.ofx_values.proofs.ShortForms.{long_amount, long_moment, long_number}

value_trimmed : (raw value : List ℕ) → value ≡ value_of raw → trimmed value ≡ value_of raw
value_trimmed raw value e = ap trimmed e ∙ trimmed-again (decoded raw)

pub same_amount : (raw value : List ℕ) (o : Option ℤ) → value ≡ value_of raw → amount_at (trimmed value) ≡ o → amount_at (value_of raw) ≡ o
same_amount raw value o e h = ap amount_at (sym (value_trimmed raw value e)) ∙ h

pub no_amount : (raw : List ℕ) → 64 < length (value_of raw) → amount_at (value_of raw) ≡ None
no_amount raw h = long_amount (value_of raw) (omega arith)

pub ruleset amounts_are_short = (same_amount, no_amount)

pub same_moment : (raw value : List ℕ) (o : Option ℤ) → value ≡ value_of raw → moment_at (trimmed value) ≡ o → moment_at (value_of raw) ≡ o
same_moment raw value o e h = ap moment_at (sym (value_trimmed raw value e)) ∙ h

pub no_moment : (raw : List ℕ) → 64 < length (value_of raw) → moment_at (value_of raw) ≡ None
no_moment raw h = long_moment (decoded raw) (omega arith)

pub ruleset moments_are_short = (same_moment, no_moment)

pub same_number : (most : ℕ) (raw value : List ℕ) → value ≡ value_of raw → number_at most (trimmed value) ≡ number_at most (value_of raw)
same_number most raw value e = ap (number_at most) (value_trimmed raw value e)

pub no_number : (most : ℕ) (raw : List ℕ) → most ≤ 10 → 64 < length (value_of raw) → None ≡ number_at most (value_of raw)
no_number most raw short h = sym (long_number most (value_of raw) (omega arith))

pub ruleset numbers_are_short = (same_number, no_number)

-- ---- ids

-- a short value is a text where a byte is in it and none is refused
pub short_text : (text : List ℕ) → length text ≤ 64 →
    (nat_lt 0 (length text) && is_none (position is_refused_in_text text)) ≡ is_text_within 64 text
short_text text short =
    let fits : nat_lt 64 (length text) ≡ false = grind (arith, common_steps) in rw fits (refused (position is_refused_in_text text))
  where
    refused : (at : Option ℕ) → (nat_lt 0 (length text) && is_none at) ≡ (nat_lt 0 (length text) && is_none (refused_at at))
    refused None = refl
    refused (Some at) = refl

pub same_text : (raw value : List ℕ) (b : Bool) → value ≡ value_of raw → b ≡ is_text_within 64 value → is_text_within 64 (value_of raw) ≡ b
same_text raw value b e h = ap (is_text_within 64) (sym e) ∙ sym h

no_text : (text : List ℕ) → 64 < length text → is_text_within 64 text ≡ false
no_text text long =
    let more : nat_lt 64 (length text) ≡ true = grind (arith, common_steps) in rw more (and-false (nat_lt 0 (length text)))

pub long_text : (raw : List ℕ) → 64 < length (value_of raw) → is_text_within 64 (value_of raw) ≡ false
long_text raw long = no_text (value_of raw) long

pub ruleset ids_are_short = (same_number, same_text, long_text)
