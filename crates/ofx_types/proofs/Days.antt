-- Midnights.
use Rattle.std.proofs.Common.{◌≡◌, ◌∙◌, ℕ, ◌*◌, ◌+◌, ◌/◌, suc, ℤ, pos, negsuc, neg_ℤ, sym, ap, arith}
use Rattle.std.proofs.lemmas.Int.{ints}
use Rattle.ofx_types.specs.Calendar.{IsMoment, IsDay, day_of, midnight}

-- A midnight lies in its day.
pub day_of-midnight : (day : ℤ) → day ≡ day_of (midnight day)
day_of-midnight (pos n) = omega (arith, ints)
day_of-midnight (negsuc n) =
    let before : suc n * 86400 ≡ suc (n * 86400 + 86399) = omega arith in
    let same : n ≡ (n * 86400 + 86399) / 86400 = omega arith in
    ap negsuc same ∙ sym (ap (λ (seconds : ℕ). day_of (neg_ℤ (pos seconds))) before)

-- The midnight of a day is a moment.
pub IsMoment-midnight : (day : ℤ) → IsDay day → IsMoment (midnight day)
IsMoment-midnight day is = (omega (arith, ints), omega (arith, ints))
