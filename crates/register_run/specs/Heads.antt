-- The first line of a frame, as it is read.
use Rattle.std.specs.Prelude.{◌≡◌, ◌≢◌, ℕ, ◌+◌, ◌<◌, ◌≤◌, List, [], ◌∷◌, ◌++◌, length, slice_index, Option}
use Rattle.std.specs.Io.KnownBytes.{IsAtEnd}
use Rattle.bank_frames.specs.Frames.{length_line, frame_head}
use Rattle.register_run.specs.Frames.{IsLength, BeginsNoFrame}
use Rattle.register_run.specs.declared.head.LineEnd.{LineEnd}
use Rattle.register_run.specs.declared.head.LineEnd.TheVariants as ends

-- No LF is among the bytes.
abbrev pub HasNoLineEnd : List ℕ → Type 0
HasNoLineEnd bytes = (k : ℕ) → k < length bytes → slice_index bytes k ≢ 10

-- A line without its LF, and no LF in it.
pub record IsLine (bytes : List ℕ) : Type 0 where
  pub line : List ℕ
  pub ended : bytes ≡ line ++ 10 ∷ []
  pub clean : HasNoLineEnd line

-- How a line ends: with its LF; with the input; or not within the 14 bytes that the first line of a frame may have.
abbrev pub EndsSo : List ℕ → Option (List ℕ) → LineEnd → Type 0
EndsSo bytes left ends.LineFeed = IsLine bytes
EndsSo bytes left ends.Input = HasNoLineEnd bytes × IsAtEnd left
EndsSo bytes left ends.Nowhere = HasNoLineEnd bytes × (length bytes ≡ 14)

-- The first line of a frame says how many bytes its file has.
pub record IsHead (bytes : List ℕ) (size : ℕ) : Type 0 where
  pub fits : IsLength size
  pub is_head : bytes ≡ frame_head size

-- No frame begins with this line.
abbrev pub IsNoHead : List ℕ → Type 0
IsNoHead bytes = (size : ℕ) → IsLength size → bytes ≡ frame_head size → ⊥
