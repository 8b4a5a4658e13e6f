-- What is answered to the bytes of a file.
use Rattle.std.specs.Prelude.{◌≡◌, ℕ, Bool, true, false, List, [], ◌∷◌, Option, None, Some, ◌⊎◌}
use Rattle.ofx_types.specs.ReplyForm.{reply_text}
use Rattle.ofx_types.specs.declared.number.UserId.{UserId}
use Rattle.ofx_types.specs.declared.number.Moment.{Moment}
use Rattle.ofx_types.specs.declared.request.RequestFile.{RequestFile}
use Rattle.bank_model.specs.declared.setup.Setup.{Setup}
use Rattle.bank_model.specs.declared.event.State.{State}
use Rattle.bank_model.specs.declared.event.Event.TheVariants.{File}
use Rattle.bank_model.specs.Rules.{answer_to, state_after, denial}
use Rattle.bank_model.specs.Polls.{is_poll, poll_reply}
use Rattle.ofx_ports.specs.Known.{Stays, Grows}
use Rattle.ofx_ports.specs.Kept.{MayGrow}
use Rattle.event_codec.specs.Records.{IsWritten}
use Rattle.bank_signon.specs.Signon.{IsSignedOn, IsDenied, IsRefused}
use Rattle.bank_desk.specs.Keeping.{AreRecordsOf}
use Rattle.bank_desk.specs.declared.desk.Answered.{Answered}
use Rattle.bank_desk.specs.declared.desk.Answered.TheVariants.{Sent, Bad}

-- A user's file that is no poll is an event: its record is kept, and its reply is sent in its envelope.
pub record Replies (sent : List ℕ → List ℕ) (setup : Setup) (at : Moment) (before : State) (bytes line : List ℕ) (records : List (List ℕ)) (after : State) : Type 0 where
  pub file : RequestFile
  pub user : UserId
  pub is_signed_on : IsSignedOn setup bytes file user
  pub is_event : is_poll file ≡ false
  pub kept : AreRecordsOf at (File user file ∷ []) records
  pub reply : line ≡ sent (answer_to setup before at (File user file))
  pub state : after ≡ state_after setup before at (File user file)

-- A user's poll gets the newest tokens, and nothing changes, not even the business day. Nothing is kept.
pub record Polls (sent : List ℕ → List ℕ) (setup : Setup) (at : Moment) (before : State) (bytes line : List ℕ) (records : List (List ℕ)) (after : State) : Type 0 where
  pub file : RequestFile
  pub user : UserId
  pub is_signed_on : IsSignedOn setup bytes file user
  pub is_no_event : is_poll file ≡ true
  pub unkept : records ≡ []
  pub reply : line ≡ sent (reply_text (poll_reply setup before user at file))
  pub state : after ≡ before

-- A failed signon is answered by itself alone, and nothing changes. Nothing is kept.
pub record Denies (sent : List ℕ → List ℕ) (setup : Setup) (at : Moment) (before : State) (bytes line : List ℕ) (records : List (List ℕ)) (after : State) : Type 0 where
  pub file : RequestFile
  pub is_denied : IsDenied setup bytes file
  pub unkept : records ≡ []
  pub reply : line ≡ sent (reply_text (denial file at))
  pub state : after ≡ before

-- what is sent for the bytes of a file that are no fault, the records that are kept of it, and the state that it leaves
abbrev pub Sends : (List ℕ → List ℕ) → Setup → Moment → State → List ℕ → List ℕ → List (List ℕ) → State → Type 0
Sends sent setup at before bytes line records after =
    Replies sent setup at before bytes line records after
    ⊎ (Polls sent setup at before bytes line records after ⊎ Denies sent setup at before bytes line records after)

-- Something is sent for a file, and its records are kept; or its bytes are refused at an offset, and nothing changes.
abbrev pub Answers : (List ℕ → List ℕ) → Setup → Moment → State → List ℕ → State → Option (List (List ℕ)) → Option (List (List ℕ)) → Answered → Type 0
Answers sent setup at before bytes after reported reported' (Sent line) =
    (records : List (List ℕ)) × Sends sent setup at before bytes line.items records after × Grows reported reported' records
Answers sent setup at before bytes after reported reported' (Bad offset) = IsRefused bytes offset × Stays reported reported' × (after ≡ before)

-- ---- what is kept of a file whose append failed

-- It is an event of a user, and its record is kept if it has landed.
pub record FileUnkept (setup : Setup) (at : Moment) (bytes : List ℕ) (reported reported' : Option (List (List ℕ))) (landed : Option Bool) : Type 0 where
  pub file : RequestFile
  pub user : UserId
  pub is_signed_on : IsSignedOn setup bytes file user
  pub is_event : is_poll file ≡ false
  pub rec : List ℕ
  pub codes : IsWritten rec at (File user file)
  pub lands : MayGrow reported reported' landed rec
