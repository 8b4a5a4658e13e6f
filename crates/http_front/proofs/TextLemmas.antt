-- Pieces that are appended one after another.
use Rattle.std.proofs.Common.{◌≡◌, ℕ, List, ◌++◌, ap, ◌∙◌, append_assoc}

-- the piece is that text
pub piece : (a b p q : List ℕ) → b ≡ a ++ p → p ≡ q → b ≡ a ++ q
piece a b p q e same = e ∙ ap (λ (l : List ℕ). a ++ l) same

pub five : (start a b c d e p q r s t : List ℕ) → a ≡ start ++ p → b ≡ a ++ q → c ≡ b ++ r → d ≡ c ++ s → e ≡ d ++ t →
    e ≡ start ++ (p ++ (q ++ (r ++ (s ++ t))))
five start a b c d e p q r s t u v w x y = y ∙ rw (x, w, v, u) (simp append_assoc)

pub six : (start a b c d e f p q r s t z : List ℕ) → a ≡ start ++ p → b ≡ a ++ q → c ≡ b ++ r → d ≡ c ++ s → e ≡ d ++ t → f ≡ e ++ z →
    f ≡ start ++ (p ++ (q ++ (r ++ (s ++ (t ++ z)))))
six start a b c d e f p q r s t z u v w x y g = g ∙ rw (y, x, w, v, u) (simp append_assoc)
