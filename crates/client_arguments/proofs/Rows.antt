-- Words in a row.
use Rattle.std.proofs.Common.{◌≡◌, ℕ, ◌<◌, ◌≤◌, List, [], ◌∷◌, length, drop, get_or, arith}

-- five words
pub five : (arguments : List (List ℕ)) (a b c d e : List ℕ) → 5 ≤ length arguments → length arguments < 6
    → a ≡ get_or arguments 0 a → b ≡ get_or arguments 1 b → c ≡ get_or arguments 2 c → d ≡ get_or arguments 3 d → e ≡ get_or arguments 4 e → arguments ≡ a ∷ b ∷ c ∷ d ∷ e ∷ []
five [] a b c d e long short ea eb ec ed ee = absurd (omega (arith, long))
five (a' ∷ []) a b c d e long short ea eb ec ed ee = absurd (omega (arith, long))
five (a' ∷ b' ∷ []) a b c d e long short ea eb ec ed ee = absurd (omega (arith, long))
five (a' ∷ b' ∷ c' ∷ []) a b c d e long short ea eb ec ed ee = absurd (omega (arith, long))
five (a' ∷ b' ∷ c' ∷ d' ∷ []) a b c d e long short ea eb ec ed ee = absurd (omega (arith, long))
five (a' ∷ b' ∷ c' ∷ d' ∷ e' ∷ []) a b c d e long short ea eb ec ed ee = cc
five (a' ∷ b' ∷ c' ∷ d' ∷ e' ∷ x ∷ more) a b c d e long short ea eb ec ed ee = absurd (omega (arith, short))

-- eight words
pub eight : (arguments : List (List ℕ)) (a b c d e f g h : List ℕ) → 8 ≤ length arguments → length arguments < 9
    → a ≡ get_or arguments 0 a → b ≡ get_or arguments 1 b → c ≡ get_or arguments 2 c → d ≡ get_or arguments 3 d
    → e ≡ get_or arguments 4 e → f ≡ get_or arguments 5 f → g ≡ get_or arguments 6 g → h ≡ get_or arguments 7 h
    → arguments ≡ a ∷ b ∷ c ∷ d ∷ e ∷ f ∷ g ∷ h ∷ []
eight [] a b c d e f g h long short ea eb ec ed ee ef eg eh = absurd (omega (arith, long))
eight (a' ∷ []) a b c d e f g h long short ea eb ec ed ee ef eg eh = absurd (omega (arith, long))
eight (a' ∷ b' ∷ []) a b c d e f g h long short ea eb ec ed ee ef eg eh = absurd (omega (arith, long))
eight (a' ∷ b' ∷ c' ∷ []) a b c d e f g h long short ea eb ec ed ee ef eg eh = absurd (omega (arith, long))
eight (a' ∷ b' ∷ c' ∷ d' ∷ []) a b c d e f g h long short ea eb ec ed ee ef eg eh = absurd (omega (arith, long))
eight (a' ∷ b' ∷ c' ∷ d' ∷ e' ∷ []) a b c d e f g h long short ea eb ec ed ee ef eg eh = absurd (omega (arith, long))
eight (a' ∷ b' ∷ c' ∷ d' ∷ e' ∷ f' ∷ []) a b c d e f g h long short ea eb ec ed ee ef eg eh = absurd (omega (arith, long))
eight (a' ∷ b' ∷ c' ∷ d' ∷ e' ∷ f' ∷ g' ∷ []) a b c d e f g h long short ea eb ec ed ee ef eg eh = absurd (omega (arith, long))
eight (a' ∷ b' ∷ c' ∷ d' ∷ e' ∷ f' ∷ g' ∷ h' ∷ []) a b c d e f g h long short ea eb ec ed ee ef eg eh = cc
eight (a' ∷ b' ∷ c' ∷ d' ∷ e' ∷ f' ∷ g' ∷ h' ∷ x ∷ more) a b c d e f g h long short ea eb ec ed ee ef eg eh = absurd (omega (arith, short))

-- six words and more
pub six_and_more : (arguments : List (List ℕ)) (a b c d e f : List ℕ) (more : List (List ℕ)) → 6 ≤ length arguments
    → a ≡ get_or arguments 0 a → b ≡ get_or arguments 1 b → c ≡ get_or arguments 2 c → d ≡ get_or arguments 3 d → e ≡ get_or arguments 4 e → f ≡ get_or arguments 5 f
    → more ≡ drop 6 arguments → arguments ≡ a ∷ b ∷ c ∷ d ∷ e ∷ f ∷ more
six_and_more [] a b c d e f more long ea eb ec ed ee ef er = absurd (omega (arith, long))
six_and_more (a' ∷ []) a b c d e f more long ea eb ec ed ee ef er = absurd (omega (arith, long))
six_and_more (a' ∷ b' ∷ []) a b c d e f more long ea eb ec ed ee ef er = absurd (omega (arith, long))
six_and_more (a' ∷ b' ∷ c' ∷ []) a b c d e f more long ea eb ec ed ee ef er = absurd (omega (arith, long))
six_and_more (a' ∷ b' ∷ c' ∷ d' ∷ []) a b c d e f more long ea eb ec ed ee ef er = absurd (omega (arith, long))
six_and_more (a' ∷ b' ∷ c' ∷ d' ∷ e' ∷ []) a b c d e f more long ea eb ec ed ee ef er = absurd (omega (arith, long))
six_and_more (a' ∷ b' ∷ c' ∷ d' ∷ e' ∷ f' ∷ rest) a b c d e f more long ea eb ec ed ee ef er = cc
