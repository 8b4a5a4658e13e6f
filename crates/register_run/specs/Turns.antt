-- The frames of an input, answered one after another.
use Rattle.std.specs.Prelude.{◌≡◌, ◌≢◌, ℕ, ◌≤◌, List, [], length, Option, Result, Ok, Err, ◌⊎◌}
use Rattle.std.specs.Option.{IfSome}
use Rattle.std.specs.List.{flat_map, AllByRecursion}
use Rattle.std.specs.Io.KnownBytes.{Keeps, Consumes, Appends, IsAtEnd}
use Rattle.ofx_ports.specs.Writes.{AppendsPart}
use Rattle.bank_frames.specs.Frames.{frame}
use Rattle.file_register.specs.declared.line.Line.{Line}
use Rattle.register_run.specs.Frames.{Fits}
use Rattle.register_run.specs.NextFrame.{IsNoFrame}
use Rattle.register_run.specs.Answers.{AnswersFile, AnswersFiles}
use Rattle.register_run.specs.declared.answering.Turn.{Turn}
use Rattle.register_run.specs.declared.answering.Turn.TheVariants as turns
use Rattle.register_run.specs.declared.stop.Stop.{Stop}
use Rattle.register_run.specs.declared.stop.Stop.TheVariants as stops

-- ---- one frame

-- The file is answered, and its line is printed.
pub record AnswersWhole (lines : List Line) (file : List ℕ) (held : Option (List ℕ)) (lines' : List Line) (held' : Option (List ℕ)) : Type 0 where
  pub line : List ℕ
  pub answers : AnswersFile lines file line lines'
  pub printed : Appends held held' line

-- A write failed, and a prefix of the line is printed.
pub record AnswersInPart (lines : List Line) (file : List ℕ) (held held' : Option (List ℕ)) : Type 0 where
  pub line : List ℕ
  pub after : List Line
  pub answers : AnswersFile lines file line after
  pub part : AppendsPart held held' line

abbrev pub AnswersOne : List Line → List ℕ → Option (List ℕ) → List Line → Option (List ℕ) → Result (Unit {0}) Stop → Type 0
AnswersOne lines file held lines' held' (Ok done) = AnswersWhole lines file held lines' held'
AnswersOne lines file held lines' held' (Err stops.WriteFailed) = AnswersInPart lines file held held'
AnswersOne lines file held lines' held' (Err stops.NoMemory) = Keeps held held'
AnswersOne lines file held lines' held' (Err stops.ReadFailed) = ⊥
AnswersOne lines file held lines' held' (Err stops.StoreFailed) = ⊥
AnswersOne lines file held lines' held' (Err (stops.BadStore offset)) = ⊥
AnswersOne lines file held lines' held' (Err (stops.Frame offset)) = ⊥

-- The input began with the frame of a file, and lost it.
pub record TakesFrame (lines : List Line) (left held : Option (List ℕ)) (lines' : List Line) (left' held' : Option (List ℕ)) (size : ℕ) : Type 0 where
  pub file : List ℕ
  pub fits : Fits file
  pub size_is : size ≡ length (frame file)
  pub read : Consumes left left' (frame file)
  pub answers : AnswersWhole lines file held lines' held'

-- The input began with the frame of a file, and lost it. A write failed, and a prefix of the file's line is printed.
pub record TakesInPart (lines : List Line) (left held left' held' : Option (List ℕ)) : Type 0 where
  pub file : List ℕ
  pub fits : Fits file
  pub read : Consumes left left' (frame file)
  pub answers : AnswersInPart lines file held held'

-- Nothing is printed, and the register stays.
pub record IsIdle (lines : List Line) (held : Option (List ℕ)) (lines' : List Line) (held' : Option (List ℕ)) : Type 0 where
  pub stays : lines' ≡ lines
  pub printed : Keeps held held'

abbrev pub RunsTurn : List Line → Option (List ℕ) → Option (List ℕ) → List Line → Option (List ℕ) → Option (List ℕ) → Result Turn Stop → Type 0
RunsTurn lines left held lines' left' held' (Ok (turns.Answered size)) = TakesFrame lines left held lines' left' held' size
RunsTurn lines left held lines' left' held' (Ok turns.AtEnd) = IsIdle lines held lines' held' × Keeps left left' × IsAtEnd left'
RunsTurn lines left held lines' left' held' (Ok turns.NoFrame) = IsIdle lines held lines' held' × IfSome left IsNoFrame
RunsTurn lines left held lines' left' held' (Err stops.WriteFailed) = TakesInPart lines left held left' held'
RunsTurn lines left held lines' left' held' (Err stops.NoMemory) = Keeps held held'
RunsTurn lines left held lines' left' held' (Err stops.ReadFailed) = Keeps held held'
RunsTurn lines left held lines' left' held' (Err stops.StoreFailed) = ⊥
RunsTurn lines left held lines' left' held' (Err (stops.BadStore offset)) = ⊥
RunsTurn lines left held lines' left' held' (Err (stops.Frame offset)) = ⊥

-- ---- all frames

-- These files were read from the start of the input, at most 1,000,000, and answered in order.
pub record Taken (lines : List Line) (left held : Option (List ℕ)) (files : List (List ℕ)) (lines' : List Line) (left' held' : Option (List ℕ)) : Type 0 where
  pub fit : AllByRecursion Fits files
  pub few : length files ≤ 1000000
  pub text : List ℕ
  pub answers : AnswersFiles lines files text lines'
  pub read : Consumes left left' (flat_map frame files)
  pub printed : Appends held held' text

-- The input was read to its end, and all of its frames are answered.
pub record Finishes (lines : List Line) (left held : Option (List ℕ)) (lines' : List Line) (left' held' : Option (List ℕ)) : Type 0 where
  pub files : List (List ℕ)
  pub taken : Taken lines left held files lines' left' held'
  pub at_end : IsAtEnd left'

-- After so many bytes the input goes on with bytes that begin no frame, or with more frames than a run answers.
pub record StopsAtFrame (lines : List Line) (left held held' : Option (List ℕ)) (offset : ℕ) : Type 0 where
  pub files : List (List ℕ)
  pub lines' : List Line
  pub rest : Option (List ℕ)
  pub taken : Taken lines left held files lines' rest held'
  pub offset_is : offset ≡ length (flat_map frame files)
  pub more : IfSome rest (λ bytes. IsNoFrame bytes ⊎ ((bytes ≢ []) × (length files ≡ 1000000)))

-- A read failed, or memory was refused. The files that were answered are printed whole, and nothing more is.
pub record StopsBetween (lines : List Line) (left held held' : Option (List ℕ)) : Type 0 where
  pub files : List (List ℕ)
  pub lines' : List Line
  pub rest : Option (List ℕ)
  pub taken : Taken lines left held files lines' rest held'

-- A write failed. A prefix of the line of the next file is printed after those of the files before.
pub record StopsInLine (lines : List Line) (left held held' : Option (List ℕ)) : Type 0 where
  pub files : List (List ℕ)
  pub lines' : List Line
  pub rest : Option (List ℕ)
  pub between : Option (List ℕ)
  pub taken : Taken lines left held files lines' rest between
  pub after : Option (List ℕ)
  pub next : TakesInPart lines' rest between after held'

abbrev pub AnswersAll : List Line → Option (List ℕ) → Option (List ℕ) → List Line → Option (List ℕ) → Option (List ℕ) → Result (Unit {0}) Stop → Type 0
AnswersAll lines left held lines' left' held' (Ok done) = Finishes lines left held lines' left' held'
AnswersAll lines left held lines' left' held' (Err (stops.Frame offset)) = StopsAtFrame lines left held held' offset
AnswersAll lines left held lines' left' held' (Err stops.ReadFailed) = StopsBetween lines left held held'
AnswersAll lines left held lines' left' held' (Err stops.NoMemory) = StopsBetween lines left held held'
AnswersAll lines left held lines' left' held' (Err stops.WriteFailed) = StopsInLine lines left held held'
AnswersAll lines left held lines' left' held' (Err stops.StoreFailed) = ⊥
AnswersAll lines left held lines' left' held' (Err (stops.BadStore offset)) = ⊥

-- After the most frames that a run answers, the input is at its end, or goes on at this offset.
abbrev pub EndsInput : ℕ → Option (List ℕ) → Option (List ℕ) → Result (Unit {0}) Stop → Type 0
EndsInput offset left left' (Ok done) = Keeps left left' × IsAtEnd left'
EndsInput offset left left' (Err (stops.Frame at)) = (at ≡ offset) × IfSome left (λ rest. rest ≢ [])
EndsInput offset left left' (Err stops.ReadFailed) = Unit {0}
EndsInput offset left left' (Err stops.NoMemory) = Unit {0}
EndsInput offset left left' (Err stops.WriteFailed) = ⊥
EndsInput offset left left' (Err stops.StoreFailed) = ⊥
EndsInput offset left left' (Err (stops.BadStore at)) = ⊥
