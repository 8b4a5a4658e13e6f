-- Frames, one after another: a request file after a line with its length, or the line that calls for the work that is due.
use Rattle.std.specs.Prelude.{◌≡◌, ℕ, ◌≤◌, List, [], ◌∷◌, ◌++◌, length, codes}
use Rattle.std.specs.Fmt.{decimal}

-- A file has at most 262,144 bytes.
abbrev pub IsLength : ℕ → Type 0
IsLength n = n ≤ 262144

-- `FILE`, a space and the length of the file, without leading zeros
abbrev pub length_line : ℕ → List ℕ
length_line n = codes "FILE " ++ decimal n

-- The line before a file ends in LF alone.
unfoldable pub frame_head : ℕ → List ℕ
frame_head n = length_line n ++ 10 ∷ []

-- a file in its frame
abbrev pub frame : List ℕ → List ℕ
frame file = frame_head (length file) ++ file

-- What a frame holds: a request file, or the call for due work.
pub data Content : Type 0 where
  request : List ℕ → Content
  due_work : Content

-- The frame of a call for due work is the line `DUE`, ended by LF alone.
abbrev pub frame_of : Content → List ℕ
frame_of (request file) = frame file
frame_of due_work = codes "DUE" ++ 10 ∷ []

-- Only files have a limit.
abbrev pub Fits : Content → Type 0
Fits (request file) = IsLength (length file)
Fits due_work = Unit {0}

-- No frame begins these bytes, which are the last ones of the input.
abbrev pub BeginsNoFrame : List ℕ → Type 0
BeginsNoFrame bytes = (content : Content) (rest : List ℕ) → Fits content → bytes ≡ frame_of content ++ rest → ⊥
