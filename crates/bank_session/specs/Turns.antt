-- One frame of a run that is answered, and why a run stops in it instead.
use Rattle.std.specs.Prelude.{◌≡◌, ℕ, List, length, take, Option, Result, Ok, Err}
use Rattle.std.specs.Io.KnownBytes.{Keeps, Consumes, Appends}
use Rattle.ofx_ports.specs.Faults.{Rose}
use Rattle.ofx_ports.specs.Known.{Grows}
use Rattle.ofx_types.specs.declared.number.Moment.{Moment}
use Rattle.bank_core.specs.BookView.{BookView}
use Rattle.bank_frames.specs.Frames.{Content, frame_of, Fits}
use Rattle.bank_opening.specs.declared.stop.Stop.{Stop}
use Rattle.bank_opening.specs.declared.stop.Stop.TheVariants as stops
use Rattle.bank_session.specs.Answers.{AnswersFrame, IsPrefixKept, IsKeptWhereRefused}
use Rattle.bank_session.specs.RunEnd.{ComesNext}
use Rattle.bank_desk.specs.declared.fault.DeskFault.{DeskFault}
use Rattle.bank_desk.specs.declared.fault.DeskFault.TheVariants.{NoMemory, AppendFailed}

-- What a turn finds and leaves outside of it: what is still to come of the input, the bytes that the output holds, the records
-- that the keeper has, the answers that the clock has given, and the three counts of faults.
pub record TurnView : Type 0 where
  pub coming : Option (List ℕ)
  pub reads : ℕ
  pub held : Option (List ℕ)
  pub writes : ℕ
  pub records : Option (List (List ℕ))
  pub keeps : ℕ
  pub shown : Option (List Moment)

abbrev pub turn_view : Option (List ℕ) → ℕ → Option (List ℕ) → ℕ → Option (List (List ℕ)) → ℕ → Option (List Moment) → TurnView
turn_view coming reads held writes records keeps shown = record {
  coming = coming;
  reads = reads;
  held = held;
  writes = writes;
  records = records;
  keeps = keeps;
  shown = shown;
}

-- For a frame this line is to be written, and its records are kept.
abbrev pub AnswersAndKeeps : Moment → BookView → BookView → Content → Option (List (List ℕ)) → Option (List (List ℕ)) → List ℕ → Type 0
AnswersAndKeeps at before after content reported reported' line =
    (records : List (List ℕ)) × AnswersFrame before.setup at before.state content line records after.state × Grows reported reported' records

-- What is kept of a frame for which there is no line: memory was refused, or the append of a record failed.
abbrev pub KeepsRefused : Moment → BookView → Content → Option (List (List ℕ)) → Option (List (List ℕ)) → Type 0
KeepsRefused at before content reported reported' =
    (records : List (List ℕ)) × IsKeptWhereRefused before.setup at before.state content records × Grows reported reported' records

abbrev pub KeepsPrefix : Moment → BookView → Content → Option (List (List ℕ)) → Option (List (List ℕ)) → Type 0
KeepsPrefix at before content reported reported' =
    (records : List (List ℕ)) × IsPrefixKept before.setup at before.state content records × Grows reported reported' records

abbrev pub HasNoLine : Moment → BookView → Content → Option (List (List ℕ)) → Option (List (List ℕ)) → DeskFault → Type 0
HasNoLine at before content reported reported' NoMemory = KeepsRefused at before content reported reported'
HasNoLine at before content reported reported' AppendFailed = KeepsPrefix at before content reported reported'

-- The next frame, of so many bytes, is used up, its records are kept, and its line is written whole.
pub record FrameAnswered (at : Moment) (size : ℕ) (before after : BookView) (found left : TurnView) : Type 0 where
  pub content : Content
  pub line : List ℕ
  pub fits : Fits content
  pub answers : AnswersAndKeeps at before after content found.records left.records line
  pub setup : after.setup ≡ before.setup
  pub read : Consumes found.coming left.coming (frame_of content)
  pub size_is : size ≡ length (frame_of content)
  pub written : Appends found.held left.held line

-- A frame that comes next stays where it is.
pub record FrameStays (content : Content) (found left : TurnView) : Type 0 where
  pub fits : Fits content
  pub unread : Keeps found.coming left.coming
  pub begins : ComesNext content left.coming

-- The write of the line for the next frame failed: its records are kept, and a prefix of the line is written.
pub record WriteBroke (at : Moment) (before : BookView) (found left : TurnView) : Type 0 where
  pub content : Content
  pub line : List ℕ
  pub after : BookView
  pub count : ℕ
  pub stays : FrameStays content found left
  pub answers : AnswersAndKeeps at before after content found.records left.records line
  pub written : Appends found.held left.held (take count line)

-- The append of a record of the next frame failed: nothing is written.
pub record AppendBroke (at : Moment) (before : BookView) (found left : TurnView) : Type 0 where
  pub content : Content
  pub stays : FrameStays content found left
  pub keeps : KeepsPrefix at before content found.records left.records
  pub unwritten : Keeps found.held left.held

-- Memory for the next frame was refused: nothing is written.
pub record MemoryRefused (at : Moment) (before : BookView) (found left : TurnView) : Type 0 where
  pub content : Content
  pub stays : FrameStays content found left
  pub keeps : KeepsRefused at before content found.records left.records
  pub unwritten : Keeps found.held left.held

-- Why a run stops in a frame that is there: a write or an append failed, or memory was refused.
abbrev pub FrameStops : Moment → BookView → TurnView → TurnView → Stop → Type 0
FrameStops at before found left stops.WriteFailed = WriteBroke at before found left × Rose found.writes left.writes
FrameStops at before found left stops.KeeperFailed = AppendBroke at before found left × Rose found.keeps left.keeps
FrameStops at before found left stops.NoMemory = MemoryRefused at before found left
FrameStops at before found left stops.ReadFailed = ⊥
FrameStops at before found left stops.Usage = ⊥
FrameStops at before found left (stops.Setup line) = ⊥
FrameStops at before found left (stops.Frame offset) = ⊥
FrameStops at before found left (stops.Records fault) = ⊥
FrameStops at before found left (stops.Letter fault) = ⊥

-- The next frame was answered, or the run stops in it.
abbrev pub FrameResult : Moment → ℕ → BookView → BookView → TurnView → TurnView → Result (Unit {0}) Stop → Type 0
FrameResult at size before after found left (Ok done) = FrameAnswered at size before after found left
FrameResult at size before after found left (Err stop) = FrameStops at before found left stop
