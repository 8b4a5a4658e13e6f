-- Frames of reply files, one after another: each after a line with its length.
use Rattle.std.specs.Prelude.{◌≡◌, ℕ, ◌≤◌, List, ◌++◌, length}
use Rattle.bank_frames.specs.Frames.{frame}

-- A reply file has at most 67,108,864 bytes.
abbrev pub IsLength : ℕ → Type 0
IsLength n = n ≤ 67108864

abbrev pub Fits : List ℕ → Type 0
Fits file = IsLength (length file)

-- No frame begins these bytes, which are the last ones of the input.
abbrev pub BeginsNoFrame : List ℕ → Type 0
BeginsNoFrame bytes = (file rest : List ℕ) → Fits file → bytes ≡ frame file ++ rest → ⊥
