-- What comes next of an input, of which these bytes were read.
use Rattle.std.specs.Prelude.{◌≡◌, ◌≢◌, ℕ, ◌<◌, ◌≤◌, Bool, List, [], ◌++◌, length, drop, Option, Result, IfOk}
use Rattle.std.specs.Bool.{MatchBool}
use Rattle.std.specs.Option.{IfSome}
use Rattle.std.specs.Io.KnownBytes.{Keeps, IsAtEnd, prepend_known}
use Rattle.bank_frames.specs.Frames.{frame}
use Rattle.register_run.specs.Frames.{Fits, BeginsNoFrame}
use Rattle.register_run.specs.declared.frames.Next.{Next}
use Rattle.register_run.specs.declared.frames.Next.TheVariants as nexts
use Rattle.ofx_ports.specs.declared.fault.FetchFault.{FetchFault}

-- The bytes are the frame of the file that is after its first line.
pub record IsFrame (bytes : List ℕ) (head : ℕ) : Type 0 where
  pub within : head ≤ length bytes
  pub fits : Fits (drop head bytes)
  pub whole : bytes ≡ frame (drop head bytes)

-- Bytes are left, and begin no frame.
abbrev pub IsNoFrame : List ℕ → Type 0
IsNoFrame rest = (rest ≢ []) × BeginsNoFrame rest

-- What comes next: a frame, all of whose bytes were read; nothing; or bytes that begin no frame.
abbrev pub IsNext : List ℕ → Option (List ℕ) → Next → Type 0
IsNext bytes left (nexts.Frame head) = IsFrame bytes head
IsNext bytes left nexts.End = (bytes ≡ []) × IsAtEnd left
IsNext bytes left nexts.NoFrame = IfSome (prepend_known bytes left) IsNoFrame

-- The bytes of a line with which an input ends are none, or begin no frame.
abbrev pub EndsAs : List ℕ → Next → Type 0
EndsAs bytes (nexts.Frame head) = ⊥
EndsAs bytes nexts.End = bytes ≡ []
EndsAs bytes nexts.NoFrame = bytes ≢ []

-- Bytes were read up to this number, or to the end of the input.
pub record ReadsBody (old : List ℕ) (whole : ℕ) (before : Option (List ℕ)) (new : List ℕ) (after : Option (List ℕ)) (result : Result Bool FetchFault) : Type 0 where
  pub bytes : List ℕ
  pub grown : new ≡ old ++ bytes
  pub kept : Keeps before (prepend_known bytes after)
  pub full : IfOk result (λ is_whole. MatchBool is_whole (length new ≡ whole) ((length new < whole) × IsAtEnd after))
