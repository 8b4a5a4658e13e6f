-- Days among the arguments: eight bytes that are a date have neither a time nor a zone.
use Rattle.std.proofs.Common.{◌≡◌, ℕ, ◌+◌, ◌/◌, List, [], ◌∷◌, ◌++◌, length, drop, ℤ, pos, ◌+ℤ◌, ◌-ℤ◌, zero, inl, inr, refl, sym, ap, arith, ◌∙◌}
use Rattle.std.proofs.lemmas.Int.{ints}
use Rattle.std.proofs.lemmas.List.{length-append}
use Rattle.ofx_types.specs.TextRules.{trimmed}
use Rattle.ofx_types.specs.Calendar.{IsDay, civil_of, day_of, midnight}
use Rattle.ofx_types.specs.DateForm.{IsDate, IsTime, IsZone, IsBracketed, date_text}
use Rattle.ofx_types.specs.declared.number.Day.{Day}
use Rattle.ofx_types.proofs.Days.{day_of-midnight, IsMoment-midnight}
use Rattle.client_arguments.specs.Arguments.{IsDayWord}

nothing_after : (prefix rest : List ℕ) → length prefix ≡ 8 → length (prefix ++ rest) ≡ 8 → rest ≡ []
nothing_after prefix [] size whole = refl
nothing_after prefix (x ∷ rest) size whole = let sum = length-append prefix (x ∷ rest) in absurd (omega (arith, size, whole, sum))

both_empty : (a b : List ℕ) → a ++ b ≡ [] → (a ≡ []) × (b ≡ [])
both_empty [] b e = (refl, e)
both_empty (x ∷ a) b e = absurd cc

no_time : (seconds : ℕ) → IsTime [] seconds → seconds ≡ 0
no_time seconds (inl (none, is)) = is
no_time seconds (inr (clock, fraction, is, more, e)) =
    let empty = (both_empty clock fraction (sym e)).0 in
    let some : clock ≡ (48 + is.hour / 10) ∷ drop 1 clock = rw is.spelled refl in absurd cc

no_zone : (offset : ℤ) → IsZone [] offset → offset ≡ pos 0
no_zone offset (inl (none, is)) = is
no_zone offset (inr is) = let e = is.spelled in absurd cc

-- Eight bytes that are a date are the date of its day.
pub day_in : (argument : List ℕ) (moment : ℤ) → length argument ≡ 8 → trimmed argument ≡ argument → IsDate argument moment → IsDay (day_of moment) × (argument ≡ date_text (civil_of (day_of moment)))
day_in argument moment size kept is =
    let date = date_text (civil_of is.day) in
    let whole : argument ≡ date ++ (is.time ++ is.zone) = sym kept ∙ is.spelled in
    let rest = nothing_after date (is.time ++ is.zone) refl (ap (λ (bytes : List ℕ). length bytes) (sym whole) ∙ size) in
    let parts = both_empty is.time is.zone rest in
    let seconds : is.seconds ≡ 0 = no_time is.seconds (rw parts.0 at is.is_time) in
    let offset : is.offset ≡ pos 0 = no_zone is.offset (rw parts.1 at is.is_zone) in
    let begins : moment ≡ midnight is.day = omega (arith, ints, is.meant, seconds, offset) in
    let same : is.day ≡ day_of moment = rw begins (day_of-midnight is.day) in
    let spelled : argument ≡ date = whole ∙ ap (λ (more : List ℕ). date ++ more) rest in
    (rw same at is.is_day, spelled ∙ ap (λ (day : ℤ). date_text (civil_of day)) same)

-- A word of a day is a date.
pub date_of : (argument : List ℕ) (day : Day) → trimmed argument ≡ argument → IsDayWord argument day → IsDate argument (midnight day.0)
date_of argument day kept is = record {
  day = day.0;
  time = [];
  zone = [];
  seconds = 0;
  offset = pos 0;
  is_day = is.within;
  spelled = kept ∙ is.spelled;
  is_time = inl (refl, refl);
  is_zone = inl (refl, refl);
  meant = omega (arith, ints);
  is_moment = IsMoment-midnight day.0 is.within;
}
