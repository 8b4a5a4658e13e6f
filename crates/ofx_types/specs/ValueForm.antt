-- What the raw bytes after a tag stand for.
use Rattle.std.specs.Prelude.{◌≡◌, ℕ, zero, suc, ◌<◌, ◌&&◌, ◌==◌, nat_eq, List, [], ◌∷◌, length, codes, None, if◌then◌else◌}
use Rattle.std.specs.List.{starts_with}
use Rattle.ofx_types.specs.TextRules.{trimmed, is_refused_in_text}
use Rattle.ofx_types.specs.TextOutcome.{text_fault}

-- `&lt;`, `&gt;` and `&amp;` stand for `<`, `>` and `&`, each read once. Any other `&` and every other byte stands
-- for itself. The number counts the bytes of an entity that are still to be passed over.
unfoldable pub decoded_past : ℕ → List ℕ → List ℕ
decoded_past n [] = []
decoded_past (suc n) (b ∷ rest) = decoded_past n rest
decoded_past zero (b ∷ rest) =
    if b == 38 && starts_with nat_eq rest (codes "lt;") then 60 ∷ decoded_past 3 rest
    else (if b == 38 && starts_with nat_eq rest (codes "gt;") then 62 ∷ decoded_past 3 rest
    else (if b == 38 && starts_with nat_eq rest (codes "amp;") then 38 ∷ decoded_past 4 rest
    else b ∷ decoded_past 0 rest))

abbrev pub decoded : List ℕ → List ℕ
decoded raw = decoded_past 0 raw

-- A value is trimmed, and its entities are decoded.
abbrev pub value_of : List ℕ → List ℕ
value_of raw = trimmed (decoded raw)

-- The raw bytes stand for a text of 1 byte up to the limit.
pub record Represents (most : ℕ) (raw text : List ℕ) : Type 0 where
  pub value : text ≡ value_of raw
  pub is_there : 0 < length text
  pub is_faultless : text_fault is_refused_in_text most text ≡ None
