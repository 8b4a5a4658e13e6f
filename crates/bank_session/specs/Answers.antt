-- What a run writes for a frame.
use Rattle.std.specs.Prelude.{◌≡◌, ℕ, ◌≤◌, false, List, [], ◌∷◌, length, map, Option, None, Some, All, ◌⊎◌}
use Rattle.std.specs.List.{flat_map}
use Rattle.ofx_types.specs.declared.number.Moment.{Moment}
use Rattle.ofx_types.specs.declared.number.UserId.{UserId}
use Rattle.ofx_types.specs.declared.request.RequestFile.{RequestFile}
use Rattle.bank_model.specs.declared.setup.Setup.{Setup}
use Rattle.bank_model.specs.declared.event.State.{State}
use Rattle.bank_model.specs.declared.event.Event.{Event}
use Rattle.bank_model.specs.declared.event.Event.TheVariants.{File}
use Rattle.bank_model.specs.Polls.{is_poll}
use Rattle.bank_model.specs.DueRun.{after_events, AreDue, run_length, IsDueRun}
use Rattle.ofx_ports.specs.Known.{Stays, Grows}
use Rattle.bank_frames.specs.Frames.{Content, request, due_work, frame, frame_of, Fits}
use Rattle.bank_frames.specs.Lines.{bad_line, due_line}
use Rattle.bank_desk.specs.Keeping.{AreRecordsOf}
use Rattle.bank_signon.specs.Signon.{IsSignedOn, IsRefused}
use Rattle.bank_desk.specs.Answering.{Replies, Polls, Denies}

-- For any other bytes the line reports the offset, and nothing changes. Nothing is kept.
pub record IsBad (before : State) (bytes line : List ℕ) (records : List (List ℕ)) (after : State) : Type 0 where
  pub offset : ℕ
  pub refused : IsRefused bytes offset
  pub unkept : records ≡ []
  pub bad : line ≡ bad_line offset
  pub state : after ≡ before

-- what is written for the bytes of a file at a moment, the records that are kept of it, and the state that it leaves: a reply is
-- written in a frame
abbrev pub AnswersFile : Setup → Moment → State → List ℕ → List ℕ → List (List ℕ) → State → Type 0
AnswersFile setup at before bytes line records after =
    Replies frame setup at before bytes line records after
    ⊎ (Polls frame setup at before bytes line records after
    ⊎ (Denies frame setup at before bytes line records after ⊎ IsBad before bytes line records after))

-- For a call for due work the bank makes a run of what is due at its moment. A record is kept of each event, and the line
-- says how many there were.
pub record DoesDue (setup : Setup) (at : Moment) (before : State) (line : List ℕ) (records : List (List ℕ)) (after : State) : Type 0 where
  pub events : List Event
  pub is_run : IsDueRun setup before at events
  pub kept : AreRecordsOf at events records
  pub count : line ≡ due_line (length events)
  pub state : after ≡ after_events setup before at events

-- what is written for a frame at a moment, the records that are kept of it, and the state that it leaves
abbrev pub AnswersFrame : Setup → Moment → State → Content → List ℕ → List (List ℕ) → State → Type 0
AnswersFrame setup at before (request bytes) line records after = AnswersFile setup at before bytes line records after
AnswersFrame setup at before due_work line records after = DoesDue setup at before line records after

-- A turn of a run: what its frame holds, its moment, what is written for it, and the records that are kept of it.
pub record Turn : Type 0 where
  pub content : Content
  pub at : Moment
  pub line : List ℕ
  pub records : List (List ℕ)

-- The turns follow each other, each from the state that the one before left.
abbrev pub AreTurns : Setup → State → List Turn → State → Type 0
AreTurns setup before [] after = after ≡ before
AreTurns setup before (turn ∷ turns) after =
    (mid : State) × Fits turn.content × AnswersFrame setup turn.at before turn.content turn.line turn.records mid × AreTurns setup mid turns after

-- what was read and what was written in these turns
abbrev pub read_in : List Turn → List ℕ
read_in turns = flat_map (λ (turn : Turn). frame_of turn.content) turns

abbrev pub written_in : List Turn → List ℕ
written_in turns = flat_map (λ (turn : Turn). turn.line) turns

-- the records that are kept of these turns, in order
abbrev pub records_in : List Turn → List (List ℕ)
records_in turns = flat_map (λ (turn : Turn). turn.records) turns

-- the moments of these turns, in order
abbrev pub moments_in : List Turn → List Moment
moments_in turns = map (λ (turn : Turn). turn.at) turns

-- With a moment among the arguments each frame has that one, and without it the moments are the answers of the clock, in
-- order, where it tells them.
abbrev pub AreMoments : Option Moment → Option (List Moment) → Option (List Moment) → List Moment → Type 0
AreMoments None reported reported' moments = Grows reported reported' moments
AreMoments (Some at) reported reported' moments = Stays reported reported' × All (λ (moment : Moment). moment ≡ at) moments

-- ---- what is kept of a frame that isn't answered whole

-- These events are a prefix of a frame's: its file where that is an event, or none yet; of a call for due work a prefix of what
-- is due.
abbrev pub BeginsWork : Setup → Moment → State → Content → List Event → Type 0
BeginsWork setup at before (request bytes) events =
    (events ≡ []) ⊎ ((file : RequestFile) × (user : UserId) × IsSignedOn setup bytes file user × (is_poll file ≡ false)
    × (events ≡ File user file ∷ []))
BeginsWork setup at before due_work events = AreDue setup before at events × (length events ≤ run_length)

-- These records are those of a prefix of a frame's events. They are kept of a frame whose append failed: the records of the events
-- that happened, and perhaps that of the event whose append failed, since it may have landed.
pub record IsPrefixKept (setup : Setup) (at : Moment) (before : State) (content : Content) (records : List (List ℕ)) : Type 0 where
  pub events : List Event
  pub work : BeginsWork setup at before content events
  pub kept : AreRecordsOf at events records

-- The records that are kept of a frame for which memory was refused: none of a file, and of a call for due work those of the
-- events that happened, a prefix of what is due.
abbrev pub IsKeptWhereRefused : Setup → Moment → State → Content → List (List ℕ) → Type 0
IsKeptWhereRefused setup at before (request bytes) records = records ≡ []
IsKeptWhereRefused setup at before due_work records = IsPrefixKept setup at before due_work records
