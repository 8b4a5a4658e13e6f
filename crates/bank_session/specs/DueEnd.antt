-- The command `due`: one run of due work in a bank that is in a state, and why it ended.
use Rattle.std.specs.Prelude.{◌≡◌, ℕ, ◌≤◌, ◌⊎◌, List, [], ◌∷◌, length, take, Result, Ok, Err}
use Rattle.std.specs.Io.KnownBytes.{Keeps, Appends}
use Rattle.ofx_ports.specs.Faults.{Rose}
use Rattle.ofx_ports.specs.Known.{Grows}
use Rattle.ofx_types.specs.declared.number.Moment.{Moment}
use Rattle.bank_model.specs.declared.setup.Setup.{Setup}
use Rattle.bank_model.specs.declared.event.State.{State}
use Rattle.bank_frames.specs.Frames.{due_work}
use Rattle.bank_opening.specs.declared.stop.Stop.{Stop}
use Rattle.bank_opening.specs.declared.stop.Stop.TheVariants as stops
use Rattle.bank_session.specs.Answers.{DoesDue, IsPrefixKept}
use Rattle.bank_session.specs.PortsView.{PortsView}

-- The clock gave one answer, what was due at that moment is done and kept, and its line is written. Nothing of the input was
-- used.
pub record DueDone (setup : Setup) (start : State) (before after : PortsView) : Type 0 where
  pub moment : Moment
  pub line : List ℕ
  pub records : List (List ℕ)
  pub state : State
  pub does : DoesDue setup moment start line records state
  pub unread : Keeps before.input_left after.input_left
  pub kept : Grows before.records after.records records
  pub written : Appends before.held after.held line
  pub moments : Grows before.shown after.shown (moment ∷ [])

-- A write failed. All is kept, and a prefix of the line is written.
pub record DueBroke (setup : Setup) (start : State) (before after : PortsView) : Type 0 where
  pub moment : Moment
  pub line : List ℕ
  pub records : List (List ℕ)
  pub state : State
  pub count : ℕ
  pub does : DoesDue setup moment start line records state
  pub unread : Keeps before.input_left after.input_left
  pub kept : Grows before.records after.records records
  pub written : Appends before.held after.held (take count line)
  pub moments : Grows before.shown after.shown (moment ∷ [])

-- The append of a record failed. Nothing is written. The records of a prefix of what was due are kept, and perhaps the one
-- whose append failed is among them.
pub record DueUnkept (setup : Setup) (start : State) (before after : PortsView) : Type 0 where
  pub moment : Moment
  pub records : List (List ℕ)
  pub work : IsPrefixKept setup moment start due_work records
  pub unread : Keeps before.input_left after.input_left
  pub kept : Grows before.records after.records records
  pub unwritten : Keeps before.held after.held
  pub moments : Grows before.shown after.shown (moment ∷ [])

-- Memory was refused. Nothing is written. The clock gave at most one answer, and the records of a prefix of what was due at
-- that moment may be kept.
pub record DueRefused (setup : Setup) (start : State) (before after : PortsView) : Type 0 where
  pub unread : Keeps before.input_left after.input_left
  pub unwritten : Keeps before.held after.held
  pub next : List Moment
  pub few : length next ≤ 1
  pub moments : Grows before.shown after.shown next
  pub records : List (List ℕ)
  pub work : (records ≡ []) ⊎ ((moment : Moment) × (next ≡ moment ∷ []) × IsPrefixKept setup moment start due_work records)
  pub kept : Grows before.records after.records records

-- What is at each end of the command in a bank that is in a state.
abbrev pub DueEnds : Setup → State → PortsView → PortsView → Result (Unit {0}) Stop → Type 0
DueEnds setup start before after (Ok done) = DueDone setup start before after
DueEnds setup start before after (Err stops.WriteFailed) = DueBroke setup start before after × Rose before.out_faults after.out_faults
DueEnds setup start before after (Err stops.KeeperFailed) = DueUnkept setup start before after × Rose before.keeper_faults after.keeper_faults
DueEnds setup start before after (Err stops.NoMemory) = DueRefused setup start before after
DueEnds setup start before after (Err stops.ReadFailed) = ⊥
DueEnds setup start before after (Err (stops.Frame offset)) = ⊥
DueEnds setup start before after (Err stops.Usage) = ⊥
DueEnds setup start before after (Err (stops.Setup line)) = ⊥
DueEnds setup start before after (Err (stops.Records fault)) = ⊥
DueEnds setup start before after (Err (stops.Letter fault)) = ⊥
