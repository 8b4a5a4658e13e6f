-- The exclusive or of two lists, by index.
use Rattle.std.proofs.Common.{◌≡◌, ℕ, zero, suc, ◌<◌, List, [], ◌∷◌, length, get_or, refl, sym, ap, ◌∙◌, arith}
use Rattle.std.specs.Prelude.{bit_xor}
use Rattle.std.proofs.lemmas.List.{ext_get_or}
use Rattle.scram_sha256.specs.Salted.{xor}

length-xor : (xs ys : List ℕ) → length xs ≡ length ys → length (xor xs ys) ≡ length xs
length-xor [] ys h = refl
length-xor (x ∷ xs) [] h = absurd (omega arith)
length-xor (x ∷ xs) (y ∷ ys) h = ap suc (length-xor xs ys (omega arith))

xor-at : (xs ys : List ℕ) (k : ℕ) → length xs ≡ length ys → k < length xs → get_or (xor xs ys) k 0 ≡ bit_xor (get_or xs k 0) (get_or ys k 0)
xor-at [] ys k h lt = absurd (omega arith)
xor-at (x ∷ xs) [] k h lt = absurd (omega arith)
xor-at (x ∷ xs) (y ∷ ys) zero h lt = refl
xor-at (x ∷ xs) (y ∷ ys) (suc k) h lt = xor-at xs ys k (omega arith) (omega arith)

pub xor_from : (both one other : List ℕ) → length one ≡ length other → length both ≡ length one
    → ((k : ℕ) → k < length one → get_or both k 0 ≡ bit_xor (get_or one k 0) (get_or other k 0)) → both ≡ xor one other
xor_from both one other same long at =
    ext_get_or 0 both (xor one other) (long ∙ sym (length-xor one other same))
    (λ k lt. at k (omega arith) ∙ sym (xor-at one other k same (omega arith)))
