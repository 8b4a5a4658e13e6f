-- Which frame the prefix of an input begins.
use Rattle.std.specs.Prelude.{◌≡◌, ◌≢◌, ℕ, ◌<◌, ◌≤◌, List, ◌++◌, length, take, codes}
use Rattle.bank_frames.specs.Frames.{due_work, IsLength, length_line, frame_head, frame_of, BeginsNoFrame}
use Rattle.bank_frames.specs.declared.frame_head.FrameSize.{FrameSize}
use Rattle.bank_frames.specs.declared.frame_head.FrameHead.{FrameHead}
use Rattle.bank_frames.specs.declared.frame_head.FrameHead.TheVariants as heads
use Rattle.bank_frames.specs.declared.frame_head.FirstLine.{FirstLine}
use Rattle.bank_frames.specs.declared.frame_head.FirstLine.TheVariants as lines

-- A first line without its LF, and what it calls for.
abbrev pub IsFirstLine : List ℕ → FirstLine → Type 0
IsFirstLine line (lines.File n) = IsLength n × (line ≡ length_line n)
IsFirstLine line lines.Due = line ≡ codes "DUE"

-- No frame has this first line.
pub record IsNoFirstLine (line : List ℕ) : Type 0 where
  pub no_file : (n : ℕ) → IsLength n → line ≡ length_line n → ⊥
  pub no_due : line ≢ codes "DUE"

-- The first line of a file's frame comes first.
pub record BeginsFrame (bytes : List ℕ) (size : FrameSize) : Type 0 where
  pub length_fits : IsLength size.file
  pub head_there : size.head ≤ length bytes
  pub head : take size.head bytes ≡ frame_head size.file

-- The call for due work comes first.
abbrev pub BeginsDue : List ℕ → Type 0
BeginsDue bytes = take 4 bytes ≡ frame_of due_work

-- A first line; fewer bytes than one may have, of which no frame is made if none follow; or no frame, whatever follows.
abbrev pub IsHeadOf : List ℕ → FrameHead → Type 0
IsHeadOf bytes (heads.File size) = BeginsFrame bytes size
IsHeadOf bytes heads.Due = BeginsDue bytes
IsHeadOf bytes heads.Partial = (length bytes < 12) × BeginsNoFrame bytes
IsHeadOf bytes heads.NoHead = (more : List ℕ) → BeginsNoFrame (bytes ++ more)
