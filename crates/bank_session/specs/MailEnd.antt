-- The command `mail`: one letter in a bank that is in a state, and why it ended.
use Rattle.std.specs.Prelude.{◌≡◌, ℕ, ◌≤◌, List, [], ◌∷◌, length, take, Option, Some, Result, Ok, Err, ◌⊎◌}
use Rattle.std.specs.Io.KnownBytes.{Keeps, Appends, IsAtEnd}
use Rattle.ofx_ports.specs.Faults.{Rose}
use Rattle.ofx_ports.specs.Known.{Stays, Grows}
use Rattle.ofx_types.specs.declared.number.UserId.{UserId}
use Rattle.ofx_types.specs.declared.number.Moment.{Moment}
use Rattle.bank_model.specs.Rules.{IsLegal}
use Rattle.bank_model.specs.SetupLookups.{user_of}
use Rattle.bank_model.specs.declared.setup.Setup.{Setup}
use Rattle.bank_model.specs.declared.event.State.{State}
use Rattle.bank_model.specs.declared.event.Event.TheVariants.{Letter}
use Rattle.event_codec.specs.Records.{IsWritten}
use Rattle.bank_core.specs.BookView.{BookView}
use Rattle.bank_opening.specs.declared.stop.LetterFault.TheVariants as faults
use Rattle.bank_opening.specs.declared.stop.Stop.{Stop}
use Rattle.bank_opening.specs.declared.stop.Stop.TheVariants as stops
use Rattle.bank_session.specs.PortsView.{PortsView}
use Rattle.bank_session.specs.Letters.{IsBodyOf, IsNoBody, CauseOf, WritesLetter}

-- ---- with the body

-- The clock gave one answer, the letter to the user of this name is written at that moment and kept, and its line is written.
pub record LetterDone (bank : BookView) (name subject body : List ℕ) (before after : PortsView) : Type 0 where
  pub user : UserId
  pub moment : Moment
  pub line : List ℕ
  pub rec : List ℕ
  pub state : State
  pub named : user_of bank.setup name ≡ Some user
  pub writes : WritesLetter bank.setup moment bank.state user subject body line rec state
  pub kept : Grows before.records after.records (rec ∷ [])
  pub written : Appends before.held after.held line
  pub moments : Grows before.shown after.shown (moment ∷ [])

-- A write failed. The letter is kept, and a prefix of the line is written.
pub record LetterBroke (bank : BookView) (name subject body : List ℕ) (before after : PortsView) : Type 0 where
  pub user : UserId
  pub moment : Moment
  pub line : List ℕ
  pub rec : List ℕ
  pub state : State
  pub count : ℕ
  pub named : user_of bank.setup name ≡ Some user
  pub writes : WritesLetter bank.setup moment bank.state user subject body line rec state
  pub kept : Grows before.records after.records (rec ∷ [])
  pub written : Appends before.held after.held (take count line)
  pub moments : Grows before.shown after.shown (moment ∷ [])

-- The append of the letter's record failed. Nothing is written, and the record is kept only if it has landed.
pub record LetterUnkept (bank : BookView) (name subject body : List ℕ) (before after : PortsView) : Type 0 where
  pub user : UserId
  pub moment : Moment
  pub rec : List ℕ
  pub named : user_of bank.setup name ≡ Some user
  pub legal : IsLegal bank.setup bank.state moment (Letter user subject body)
  pub codes : IsWritten rec moment (Letter user subject body)
  pub kept : Stays before.records after.records ⊎ Grows before.records after.records (rec ∷ [])
  pub unwritten : Keeps before.held after.held
  pub moments : Grows before.shown after.shown (moment ∷ [])

-- Memory was refused. Nothing is written or kept, and the clock gave at most one answer.
pub record LetterUndone (before after : PortsView) : Type 0 where
  pub unkept : Stays before.records after.records
  pub unwritten : Keeps before.held after.held
  pub next : List Moment
  pub few : length next ≤ 1
  pub moments : Grows before.shown after.shown next

-- Nothing is written or kept, and the clock wasn't read.
pub record LeftAlone (before after : PortsView) : Type 0 where
  pub unkept : Stays before.records after.records
  pub unwritten : Keeps before.held after.held
  pub unseen : Stays before.shown after.shown

-- What is at each end of a letter in a bank.
abbrev pub LetterEnds : BookView → List ℕ → List ℕ → List ℕ → PortsView → PortsView → Result (Unit {0}) Stop → Type 0
LetterEnds bank name subject body before after (Ok done) = LetterDone bank name subject body before after
LetterEnds bank name subject body before after (Err (stops.Letter fault)) = CauseOf bank name fault × LeftAlone before after
LetterEnds bank name subject body before after (Err stops.WriteFailed) =
    LetterBroke bank name subject body before after × Rose before.out_faults after.out_faults
LetterEnds bank name subject body before after (Err stops.KeeperFailed) =
    LetterUnkept bank name subject body before after × Rose before.keeper_faults after.keeper_faults
LetterEnds bank name subject body before after (Err stops.NoMemory) = LetterUndone before after
LetterEnds bank name subject body before after (Err stops.ReadFailed) = ⊥
LetterEnds bank name subject body before after (Err (stops.Frame offset)) = ⊥
LetterEnds bank name subject body before after (Err stops.Usage) = ⊥
LetterEnds bank name subject body before after (Err (stops.Setup line)) = ⊥
LetterEnds bank name subject body before after (Err (stops.Records fault)) = ⊥

-- ---- without a body

-- Without a body a letter isn't written because the input is none, because a read failed, or for want of memory.
abbrev pub StopsReading : Option (List ℕ) → ℕ → ℕ → Stop → Type 0
StopsReading left before now (stops.Letter faults.NoBody) = IsNoBody left
StopsReading left before now (stops.Letter faults.NoUser) = ⊥
StopsReading left before now (stops.Letter faults.Full) = ⊥
StopsReading left before now stops.ReadFailed = Rose before now
StopsReading left before now stops.NoMemory = Unit {0}
StopsReading left before now stops.WriteFailed = ⊥
StopsReading left before now stops.KeeperFailed = ⊥
StopsReading left before now (stops.Frame offset) = ⊥
StopsReading left before now stops.Usage = ⊥
StopsReading left before now (stops.Setup line) = ⊥
StopsReading left before now (stops.Records fault) = ⊥

-- Nothing is written then, and the clock wasn't read.
pub record EndsWithoutBody (before after : PortsView) (stop : Stop) : Type 0 where
  pub cause : StopsReading before.input_left before.input_faults after.input_faults stop
  pub left : LeftAlone before after

-- ---- the command

-- The letter has the body that all bytes of the input are, and the input is at its end.
pub record EndsWithBody (bank : BookView) (name subject : List ℕ) (before after : PortsView) (end : Result (Unit {0}) Stop) : Type 0 where
  pub body : List ℕ
  pub is_body : IsBodyOf before.input_left body
  pub at_end : IsAtEnd after.input_left
  pub ends : LetterEnds bank name subject body before after end

-- What is at each end of the command in a bank that is in a state.
abbrev pub MailEnds : List ℕ → List ℕ → Setup → State → PortsView → PortsView → Result (Unit {0}) Stop → Type 0
MailEnds name subject setup start before after (Ok done) =
    EndsWithBody (record { setup = setup; state = start }) name subject before after (Ok done)
MailEnds name subject setup start before after (Err stop) =
    EndsWithoutBody before after stop ⊎ EndsWithBody (record { setup = setup; state = start }) name subject before after (Err stop)
