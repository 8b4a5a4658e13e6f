-- How long the values are at most that spell a date, an amount or a number.
use Rattle.std.proofs.Common.{◌≡◌, ℕ, ◌<◌, ◌≤◌, Bool, true, List, length, Option, Some, None, refl, inl, inr, arith, ℤ}
use Rattle.std.proofs.lemmas.Bool.{cond-false, false_from_ne_true, and_parts, leb-true}
use Rattle.std.proofs.lemmas.List.{length-append}
use Rattle.std.specs.Prelude.{nat_le}
use Rattle.ofx_types.specs.TextRules.{trimmed}
use Rattle.ofx_types.specs.Digits.{IsSign}
use Rattle.ofx_types.specs.DateForm.{IsClock, IsFraction, IsTime, IsHours, IsPart, IsName, IsBracketed, IsZone, IsDate}
use Rattle.ofx_types.specs.DateReading.{moment_at}
use Rattle.ofx_types.specs.AmountReading.{amount_at}
use Rattle.ofx_types.specs.NumberReading.{is_number_within, number_at}
use Rattle.ofx_values.proofs.DateLemmas.{date_takes}

fraction_length : (text : List ℕ) → IsFraction text → length text ≤ 4
fraction_length text (inl none) = rw none (omega arith)
fraction_length text (inr (n, small, e)) = rw e (omega arith)

clock_length : (text : List ℕ) (seconds : ℕ) → IsClock text seconds → length text ≡ 6
clock_length text seconds c = rw c.spelled refl

time_length : (text : List ℕ) (seconds : ℕ) → IsTime text seconds → length text ≤ 10
time_length text seconds (inl (none, _)) = rw none (omega arith)
time_length text seconds (inr (clock, fraction, c, f, e)) =
    let six = clock_length clock seconds c in
    let four = fraction_length fraction f in
    rw e (omega (arith, length-append clock fraction))

sign_length : (text : List ℕ) (negative : Bool) → IsSign text negative → length text ≤ 1
sign_length text negative (inl (none, _)) = rw none (omega arith)
sign_length text negative (inr (inl (plus, _))) = rw plus (omega arith)
sign_length text negative (inr (inr (minus, _))) = rw minus (omega arith)

hours_length : (text : List ℕ) (hour : ℕ) → IsHours text hour → length text ≤ 2
hours_length text hour (inl (_, e)) = rw e (omega arith)
hours_length text hour (inr (_, e)) = rw e (omega arith)

part_length : (text : List ℕ) (hundredth : ℕ) → IsPart text hundredth → length text ≤ 3
part_length text hundredth (inl (none, _)) = rw none (omega arith)
part_length text hundredth (inr (inl (tenth, _, e, _))) = rw e (omega arith)
part_length text hundredth (inr (inr (_, e))) = rw e (omega arith)

name_length : (text : List ℕ) → IsName text → length text ≤ 33
name_length text (inl none) = rw none (omega arith)
name_length text (inr (name, e, short, _)) = rw e (omega arith)

bracketed_length : (text : List ℕ) (offset : ℤ) → IsBracketed text offset → length text ≤ 41
bracketed_length text offset b =
    let sign = sign_length b.sign b.negative b.is_sign in
    let hours = hours_length b.hours b.hour b.is_hours in
    let part = part_length b.part b.hundredth b.is_part in
    let name = name_length b.name b.is_name in
    rw (b.spelled, length-append, length-append, length-append, length-append) (omega arith)

zone_length : (text : List ℕ) (offset : ℤ) → IsZone text offset → length text ≤ 41
zone_length text offset (inl (none, _)) = rw none (omega arith)
zone_length text offset (inr b) = bracketed_length text offset b

-- a date has at most 59 bytes
pub date_length : (raw : List ℕ) (m : ℤ) → IsDate raw m → length (trimmed raw) ≤ 59
date_length raw m d =
    let time = time_length d.time d.seconds d.is_time in
    let zone = zone_length d.zone d.offset d.is_zone in
    rw d.spelled (omega (arith, length-append d.time d.zone))

-- so more bytes spell none
pub long_moment : (raw : List ℕ) → 59 < length (trimmed raw) → moment_at (trimmed raw) ≡ None
long_moment raw h = by_cases (moment_at (trimmed raw)) refl
  where
    by_cases : (o : Option ℤ) → moment_at (trimmed raw) ≡ o → moment_at (trimmed raw) ≡ None
    by_cases None e = e
    by_cases (Some m) e = absurd (omega (arith, date_length raw m (date_takes raw m e)))

-- an amount has at most 32 bytes
pub long_amount : (text : List ℕ) → 32 < length text → amount_at text ≡ None
unfolding amount_at
long_amount text h =
    cond-false _ _ _ (false_from_ne_true _ (λ (e : nat_le (length text) 32 ≡ true). absurd (omega (arith, leb-true (length text) 32 e))))

within_limit : (most : ℕ) (text : List ℕ) → is_number_within most text ≡ true → length text ≤ most
within_limit most text e =
    let both = and_parts _ _ e in
    let first = and_parts _ _ both.0 in
    leb-true (length text) most first.1

-- and a number no more than its limit
pub long_number : (most : ℕ) (text : List ℕ) → most < length text → number_at most text ≡ None
unfolding number_at
long_number most text h =
    cond-false _ _ _ (false_from_ne_true _ (λ (e : is_number_within most text ≡ true). absurd (omega (arith, within_limit most text e))))
