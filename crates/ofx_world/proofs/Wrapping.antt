-- Sums modulo a number.
use Rattle.std.proofs.Common.{◌≡◌, ℕ, ◌+◌, ◌*◌, ◌/◌, ◌%◌, arith, sym, ap, ◌∙◌}
use Rattle.std.proofs.Math.Nat.{add-mul-mod_self_right, mod-add-div'}

regrouped : (p b q n : ℕ) → p + q ≡ n → (p + b) + q ≡ n + b
regrouped p b q n same = omega (arith, same)

-- A summand may be taken modulo the number first.
pub wrapped : (a b m : ℕ) → (a % m + b) % m ≡ (a + b) % m
wrapped a b m =
    sym (add-mul-mod_self_right (a % m + b) (a / m) m) ∙ ap (λ x. x % m) (regrouped (a % m) b (a / m * m) a (mod-add-div' a m))
