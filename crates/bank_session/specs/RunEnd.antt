-- A run over the frames of an input, in a bank that is in a state, and why it ended.
use Rattle.std.specs.Prelude.{◌≡◌, ◌≢◌, ℕ, ◌<◌, ◌≤◌, List, [], ◌∷◌, ◌++◌, length, take, Option, Result, Ok, Err, ◌⊎◌}
use Rattle.std.specs.Option.{IfSome}
use Rattle.std.specs.Io.KnownBytes.{Consumes, Appends, IsAtEnd, prepend_known}
use Rattle.ofx_ports.specs.Faults.{Rose}
use Rattle.ofx_ports.specs.Known.{Grows}
use Rattle.ofx_types.specs.declared.number.Moment.{Moment}
use Rattle.bank_model.specs.declared.setup.Setup.{Setup}
use Rattle.bank_model.specs.declared.event.State.{State}
use Rattle.bank_frames.specs.Frames.{Content, frame_of, Fits, BeginsNoFrame}
use Rattle.bank_opening.specs.declared.stop.Stop.{Stop}
use Rattle.bank_opening.specs.declared.stop.Stop.TheVariants as stops
use Rattle.bank_session.specs.Answers.{AnswersFrame, Turn, AreTurns, read_in, written_in, records_in, moments_in, AreMoments, IsPrefixKept, IsKeptWhereRefused}
use Rattle.bank_session.specs.PortsView.{PortsView}

-- A run has taken these turns from a state, at most 1,000,000. Where the input is known it began with the frames of the turns,
-- and after them came the bytes that were read ahead and those that it has left.
pub record Taken (setup : Setup) (start : State) (before after : PortsView) (turns : List Turn) (state : State) (ahead : List ℕ) : Type 0 where
  pub are_turns : AreTurns setup start turns state
  pub few : length turns ≤ 1000000
  pub read : Consumes before.input_left (prepend_known ahead after.input_left) (read_in turns)

-- What is still to come begins with the frame of this content.
abbrev pub ComesNext : Content → Option (List ℕ) → Type 0
ComesNext content coming = IfSome coming (λ rest. (tail : List ℕ) × (rest ≡ frame_of content ++ tail))

-- The input was read to its end, every frame of it was answered, the records are kept and the lines are written.
pub record Finished (setup : Setup) (start : State) (at : Option Moment) (before after : PortsView) : Type 0 where
  pub turns : List Turn
  pub state : State
  pub ahead : List ℕ
  pub taken : Taken setup start before after turns state ahead
  pub at_end : IsAtEnd (prepend_known ahead after.input_left)
  pub kept : Grows before.records after.records (records_in turns)
  pub written : Appends before.held after.held (written_in turns)
  pub moments : AreMoments at before.shown after.shown (moments_in turns)

-- Memory was refused before a frame, or in the frame that comes next, of which records may be kept.
pub record RefusedIn (setup : Setup) (state : State) (coming : Option (List ℕ)) (next : List Moment) (records : List (List ℕ)) : Type 0 where
  pub content : Content
  pub moment : Moment
  pub fits : Fits content
  pub begins : ComesNext content coming
  pub at : next ≡ moment ∷ []
  pub work : IsKeptWhereRefused setup moment state content records

-- Memory was refused. The frames of the turns are answered whole, and nothing more is written. The clock may have been
-- read for the next frame, and where that is a call for due work a prefix of its events may have happened and be kept.
pub record StoppedBetween (setup : Setup) (start : State) (at : Option Moment) (before after : PortsView) : Type 0 where
  pub turns : List Turn
  pub state : State
  pub ahead : List ℕ
  pub taken : Taken setup start before after turns state ahead
  pub written : Appends before.held after.held (written_in turns)
  pub next : List Moment
  pub few : length next ≤ 1
  pub moments : AreMoments at before.shown after.shown (moments_in turns ++ next)
  pub records : List (List ℕ)
  pub refused : (records ≡ []) ⊎ RefusedIn setup state (prepend_known ahead after.input_left) next records
  pub kept : Grows before.records after.records (records_in turns ++ records)

-- A read failed when every frame that was read whole was answered, as far as a run answers frames.
pub record StoppedInRead (setup : Setup) (start : State) (at : Option Moment) (before after : PortsView) : Type 0 where
  pub turns : List Turn
  pub state : State
  pub ahead : List ℕ
  pub taken : Taken setup start before after turns state ahead
  pub no_frame : BeginsNoFrame ahead ⊎ (length turns ≡ 1000000)
  pub kept : Grows before.records after.records (records_in turns)
  pub written : Appends before.held after.held (written_in turns)
  pub moments : AreMoments at before.shown after.shown (moments_in turns)

-- More is to come at this offset of the input: bytes that begin no frame, or anything after the most frames that a run
-- answers.
pub record StoppedAtFrame (setup : Setup) (start : State) (at : Option Moment) (before after : PortsView) (offset : ℕ) : Type 0 where
  pub turns : List Turn
  pub state : State
  pub ahead : List ℕ
  pub taken : Taken setup start before after turns state ahead
  pub more : IfSome (prepend_known ahead after.input_left) (λ rest. (rest ≢ []) × (BeginsNoFrame rest ⊎ (length turns ≡ 1000000)))
  pub offset_is : offset ≡ length (read_in turns)
  pub kept : Grows before.records after.records (records_in turns)
  pub written : Appends before.held after.held (written_in turns)
  pub moments : AreMoments at before.shown after.shown (moments_in turns)

-- A write failed. A prefix of the line of the next frame, of which all is kept, is written after the lines of the turns.
pub record StoppedInLine (setup : Setup) (start : State) (at : Option Moment) (before after : PortsView) : Type 0 where
  pub turns : List Turn
  pub state : State
  pub ahead : List ℕ
  pub taken : Taken setup start before after turns state ahead
  pub content : Content
  pub moment : Moment
  pub line : List ℕ
  pub records : List (List ℕ)
  pub next : State
  pub count : ℕ
  pub room : length turns < 1000000
  pub fits : Fits content
  pub begins : ComesNext content (prepend_known ahead after.input_left)
  pub answers : AnswersFrame setup moment state content line records next
  pub kept : Grows before.records after.records (records_in turns ++ records)
  pub written : Appends before.held after.held (written_in turns ++ take count line)
  pub moments : AreMoments at before.shown after.shown (moments_in turns ++ moment ∷ [])

-- The append of a record failed. Of the next frame nothing is written. Kept of it are the records of the events that happened
-- before, and perhaps the record whose append failed.
pub record StoppedInKeeping (setup : Setup) (start : State) (at : Option Moment) (before after : PortsView) : Type 0 where
  pub turns : List Turn
  pub state : State
  pub ahead : List ℕ
  pub taken : Taken setup start before after turns state ahead
  pub content : Content
  pub moment : Moment
  pub records : List (List ℕ)
  pub room : length turns < 1000000
  pub fits : Fits content
  pub begins : ComesNext content (prepend_known ahead after.input_left)
  pub work : IsPrefixKept setup moment state content records
  pub kept : Grows before.records after.records (records_in turns ++ records)
  pub written : Appends before.held after.held (written_in turns)
  pub moments : AreMoments at before.shown after.shown (moments_in turns ++ moment ∷ [])

-- What is at each end of a run in a bank that is in a state.
abbrev pub RunEnds : Option Moment → Setup → State → PortsView → PortsView → Result (Unit {0}) Stop → Type 0
RunEnds at setup start before after (Ok done) = Finished setup start at before after
RunEnds at setup start before after (Err (stops.Frame offset)) = StoppedAtFrame setup start at before after offset
RunEnds at setup start before after (Err stops.ReadFailed) = StoppedInRead setup start at before after × Rose before.input_faults after.input_faults
RunEnds at setup start before after (Err stops.WriteFailed) = StoppedInLine setup start at before after × Rose before.out_faults after.out_faults
RunEnds at setup start before after (Err stops.KeeperFailed) = StoppedInKeeping setup start at before after × Rose before.keeper_faults after.keeper_faults
RunEnds at setup start before after (Err stops.NoMemory) = StoppedBetween setup start at before after
RunEnds at setup start before after (Err stops.Usage) = ⊥
RunEnds at setup start before after (Err (stops.Setup line)) = ⊥
RunEnds at setup start before after (Err (stops.Records fault)) = ⊥
RunEnds at setup start before after (Err (stops.Letter fault)) = ⊥
