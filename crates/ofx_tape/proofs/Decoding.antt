-- Decoding from the left, and values in which nothing is to be decoded.
use Rattle.std.proofs.Common.{◌≡◌, ℕ, ◌<◌, length, zero, suc, Bool, true, false, cond, List, [], ◌∷◌, drop, nat_eq, codes, refl, arith}
use Rattle.std.proofs.lemmas.Grind.{common_steps}
use Rattle.std.specs.List.{list_any, starts_with}
use Rattle.ofx_types.specs.ValueForm.{decoded_past, decoded}

-- passing over bytes drops them
pub decoded_past-drop : (n : ℕ) (bytes : List ℕ) → decoded_past n bytes ≡ decoded (drop n bytes)
unfolding decoded_past
decoded_past-drop zero bytes = refl
decoded_past-drop (suc n) [] = refl
decoded_past-drop (suc n) (b ∷ bytes) = decoded_past-drop n bytes

-- a byte other than `&` stands for itself
pub decoded-other : (first : ℕ) (rest : List ℕ) → nat_eq first 38 ≡ false → decoded (first ∷ rest) ≡ first ∷ decoded rest
unfolding decoded_past
decoded-other first rest h = rw h refl

pub decoded-lt : (rest : List ℕ) → starts_with nat_eq rest (codes "lt;") ≡ true → decoded (38 ∷ rest) ≡ 60 ∷ decoded (drop 3 rest)
unfolding decoded_past
decoded-lt rest h = rw (h, ← decoded_past-drop 3 rest) refl

pub decoded-gt : (rest : List ℕ) → starts_with nat_eq rest (codes "lt;") ≡ false → starts_with nat_eq rest (codes "gt;") ≡ true →
    decoded (38 ∷ rest) ≡ 62 ∷ decoded (drop 3 rest)
unfolding decoded_past
decoded-gt rest no_lt h = rw (no_lt, h, ← decoded_past-drop 3 rest) refl

pub decoded-amp : (rest : List ℕ) → starts_with nat_eq rest (codes "lt;") ≡ false → starts_with nat_eq rest (codes "gt;") ≡ false →
    starts_with nat_eq rest (codes "amp;") ≡ true → decoded (38 ∷ rest) ≡ 38 ∷ decoded (drop 4 rest)
unfolding decoded_past
decoded-amp rest no_lt no_gt h = rw (no_lt, no_gt, h, ← decoded_past-drop 4 rest) refl

-- a `&` that begins no entity stands for itself
pub decoded-lone : (rest : List ℕ) → starts_with nat_eq rest (codes "lt;") ≡ false → starts_with nat_eq rest (codes "gt;") ≡ false →
    starts_with nat_eq rest (codes "amp;") ≡ false → decoded (38 ∷ rest) ≡ 38 ∷ decoded rest
unfolding decoded_past
decoded-lone rest no_lt no_gt no_amp = rw (no_lt, no_gt, no_amp) refl

pub ruleset decoded_prefix = (decoded-other, decoded-lt, decoded-gt, decoded-amp, decoded-lone)

pub decoded-nil : decoded [] ≡ []
unfolding decoded_past
decoded-nil = refl

no_ampersand : (b : ℕ) (bs : List ℕ) → list_any (λ x. nat_eq x 38) (b ∷ bs) ≡ false → (nat_eq b 38 ≡ false) × (list_any (λ x. nat_eq x 38) bs ≡ false)
no_ampersand b bs h = grind (arith, common_steps)

-- without a `&` nothing is decoded
pub decoded-plain : (raw : List ℕ) → list_any (λ b. nat_eq b 38) raw ≡ false → decoded raw ≡ raw
unfolding decoded_past
decoded-plain [] h = refl
decoded-plain (b ∷ bs) h =
    let parts = no_ampersand b bs h in rw (parts.0, decoded-plain bs parts.1) refl

pub ruleset decoded_whole = (decoded-plain)

pub decoded_none : (bytes : List ℕ) → length bytes < 1 → decoded bytes ≡ []
decoded_none [] h = decoded-nil
decoded_none (b ∷ bytes) h = absurd (omega arith)

pub ruleset decoded_ends = (decoded_none)

one_more : (b : ℕ) (bytes : List ℕ) → 0 < length (b ∷ bytes)
one_more b bytes = omega arith

either_more : (test : Bool) (b : ℕ) (bytes other : List ℕ) → 0 < length other → 0 < length (cond test (b ∷ bytes) other)
either_more true b bytes other h = one_more b bytes
either_more false b bytes other h = h

-- and each byte stands for something
pub decoded_some : (bytes : List ℕ) → 0 < length bytes → 0 < length (decoded bytes)
unfolding decoded_past
decoded_some [] h = absurd (omega arith)
decoded_some (b ∷ bytes) h = search (either_more, one_more)
