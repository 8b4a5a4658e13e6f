-- Letters of the bank to a user: the body that an input is, and what writing one does.
use Rattle.std.specs.Prelude.{◌≡◌, ℕ, ◌+◌, ◌<◌, ◌≤◌, true, false, List, length, codes, position, Option, None, Some, Result, Ok, Err}
use Rattle.std.specs.Option.{IfSome}
use Rattle.bank_frames.specs.Lines.{mail_line}
use Rattle.ofx_types.specs.TextRules.{trimmed, is_refused_in_text}
use Rattle.ofx_types.specs.declared.number.UserId.{UserId}
use Rattle.ofx_types.specs.declared.number.Moment.{Moment}
use Rattle.bank_model.specs.Due.{has_number}
use Rattle.bank_model.specs.Rules.{IsLegal, state_after, letter_entry}
use Rattle.bank_model.specs.SetupLookups.{user_of}
use Rattle.bank_model.specs.Sound.{IsTextWithin}
use Rattle.bank_model.specs.declared.setup.Setup.{Setup}
use Rattle.bank_model.specs.declared.event.State.{State}
use Rattle.bank_model.specs.declared.event.Event.TheVariants.{Letter}
use Rattle.bank_core.specs.BookView.{BookView}
use Rattle.event_codec.specs.Records.{Codes}
use Rattle.bank_opening.specs.declared.stop.LetterFault.{LetterFault}
use Rattle.bank_opening.specs.declared.stop.LetterFault.TheVariants as faults
use Rattle.bank_opening.specs.declared.stop.Stop.{Stop}
use Rattle.bank_opening.specs.declared.stop.Stop.TheVariants as stops

-- ---- the body

-- A body is an input of at most 262,144 bytes, without the white space at its ends. It has 1 to 10,000 bytes, and no
-- control byte but tab, LF and CR.
pub record IsBody (input body : List ℕ) : Type 0 where
  pub small : length input ≤ 262144
  pub is_trimmed : body ≡ trimmed input
  pub fits : IsTextWithin 10000 body
  pub is_clean : position is_refused_in_text body ≡ None

-- Where the bytes are known the body is that of all of them.
abbrev pub IsBodyOf : Option (List ℕ) → List ℕ → Type 0
IsBodyOf left body = IfSome left (λ all. IsBody all body)

abbrev pub HasNoBody : List ℕ → Type 0
HasNoBody input = (body : List ℕ) → IsBody input body → ⊥

-- Where the bytes are known they are no body.
abbrev pub IsNoBody : Option (List ℕ) → Type 0
IsNoBody left = IfSome left HasNoBody

-- what is made of bytes that are the whole input, or more than a body may have
abbrev pub ReadsBody : List ℕ → Result (List ℕ) Stop → Type 0
ReadsBody input (Ok body) = IsBody input body
ReadsBody input (Err (stops.Letter faults.NoBody)) = HasNoBody input
ReadsBody input (Err (stops.Letter faults.NoUser)) = ⊥
ReadsBody input (Err (stops.Letter faults.Full)) = ⊥
ReadsBody input (Err stops.NoMemory) = Unit {0}
ReadsBody input (Err stops.ReadFailed) = ⊥
ReadsBody input (Err stops.WriteFailed) = ⊥
ReadsBody input (Err stops.KeeperFailed) = ⊥
ReadsBody input (Err (stops.Frame offset)) = ⊥
ReadsBody input (Err stops.Usage) = ⊥
ReadsBody input (Err (stops.Setup line)) = ⊥
ReadsBody input (Err (stops.Records fault)) = ⊥

-- ---- the user, and the number of the entry

-- The bank has this user, and no number left for an entry.
abbrev pub IsFullFor : BookView → List ℕ → Type 0
IsFullFor bank name = (user : UserId) × (user_of bank.setup name ≡ Some user) × (has_number bank.setup bank.state ≡ false)

-- Why a letter whose body is there isn't written.
abbrev pub CauseOf : BookView → List ℕ → LetterFault → Type 0
CauseOf bank name faults.NoUser = user_of bank.setup name ≡ None
CauseOf bank name faults.Full = IsFullFor bank name
CauseOf bank name faults.NoBody = ⊥

-- The user and the number of the next entry; or why there is none of them.
abbrev pub IsAddressed : BookView → List ℕ → Result (UserId × ℕ) LetterFault → Type 0
IsAddressed bank name (Ok to) =
    (user_of bank.setup name ≡ Some to.0) × (has_number bank.setup bank.state ≡ true) × (to.1 ≡ length bank.state.entries + 1)
IsAddressed bank name (Err fault) = CauseOf bank name fault

-- ---- the letter

-- A letter may be written to this user, with a number that is left.
pub record CanWrite (bank : BookView) (to : UserId × ℕ) (subject body : List ℕ) : Type 0 where
  pub known : to.0.0 < length bank.setup.users
  pub subject_fits : IsTextWithin 64 subject
  pub body_fits : IsTextWithin 10000 body
  pub left : has_number bank.setup bank.state ≡ true
  pub next : to.1 ≡ length bank.state.entries + 1

-- A letter is an event of the bank with its record, and the line reports the number of its entry.
pub record WritesLetter (setup : Setup) (at : Moment) (before : State) (user : UserId) (subject body line rec : List ℕ) (after : State) : Type 0 where
  pub legal : IsLegal setup before at (Letter user subject body)
  pub codes : Codes rec at (Letter user subject body)
  pub reported : line ≡ mail_line (letter_entry setup before user at subject body).number
  pub state : after ≡ state_after setup before at (Letter user subject body)
