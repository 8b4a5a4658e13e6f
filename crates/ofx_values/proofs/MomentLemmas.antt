-- Which moments are read.
use Rattle.std.proofs.Common.{◌≡◌, Some, None, ℤ, pos, negsuc}
use Rattle.std.proofs.lemmas.Bool.{cond-true, cond-false, and_from, and_parts, false_from_ne_true}
use Rattle.std.proofs.lemmas.Option.{cond_some}
use Rattle.ofx_types.specs.Calendar.{IsMoment}
use Rattle.ofx_types.specs.DateReading.{lawful}
use Rattle.ofx_types.proofs.Numbers.{le_from, le_holds}

-- a lawful moment is read as it is
pub lawful_some : (m z : ℤ) → m ≡ z → IsMoment z → lawful m ≡ Some z
unfolding lawful
lawful_some m z e h =
    rw e (cond-true _ _ _ (and_from _ _ (le_from (negsuc 2208988799) z h.0) (le_from z (pos 253402300799) h.1)))

pub lawful_takes : (m z : ℤ) → lawful m ≡ Some z → (m ≡ z) × IsMoment m
unfolding lawful
lawful_takes m z e =
    let h = cond_some _ _ _ e in
    let both = and_parts _ _ h.0 in
    (h.1, (le_holds (negsuc 2208988799) m both.0, le_holds m (pos 253402300799) both.1))

-- and no other
pub lawful_none : (m : ℤ) → (IsMoment m → ⊥) → lawful m ≡ None
unfolding lawful
lawful_none m h =
    cond-false _ _ _ (false_from_ne_true _ (λ e. let both = and_parts _ _ e in h (le_holds (negsuc 2208988799) m both.0, le_holds m (pos 253402300799) both.1)))
