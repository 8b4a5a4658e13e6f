-- Counts of faults over two calls, one after the other.
use Rattle.std.proofs.Common.{◌≡◌, ℕ, ◌<◌, ◌≤◌, inl, inr, Result, Err, ap, ◌∙◌, arith}
use Rattle.ofx_ports.specs.Faults.{Rose, CountsFaults}

-- what rose later rose from the start
pub rose_from : (a b c : ℕ) → a ≤ b → Rose b c → Rose a c
rose_from a b c le (inl lt) = inl (omega arith)
rose_from a b c le (inr top) = inr top

pub counts_on : (a b c : ℕ) {first second : Type 0} → CountsFaults a b first → CountsFaults b c second → CountsFaults a c second
counts_on a b c one two = record { later = omega (arith, one.later, two.later); cause = λ failed. rose_from a b c one.later (two.cause failed) }

-- a count that stays is one of a call that doesn't fail
pub counts_same : (a : ℕ) {failed : Type 0} → (failed → ⊥) → CountsFaults a a failed
counts_same a never = record { later = omega arith; cause = λ failed. absurd (never failed) }

pub counts_never : (a b : ℕ) {first second : Type 0} → CountsFaults a b first → (second → ⊥) → CountsFaults a b second
counts_never a b one never = record { later = one.later; cause = λ failed. absurd (never failed) }

-- a call that fails as the last one within it did
pub counts_later : (a b c : ℕ) {T U E : Type 0} (fault wanted : E) (call : Result T E) (result : Result U E) → call ≡ Err fault → result ≡ Err fault → CountsFaults b c (call ≡ Err wanted) → a ≤ b
    → CountsFaults a c (result ≡ Err wanted)
counts_later a b c fault wanted call result was is one le = record {
  later = omega (arith, one.later);
  cause = λ failed. let same : fault ≡ wanted = cc in rose_from a b c le (one.cause (was ∙ ap Err same));
}
