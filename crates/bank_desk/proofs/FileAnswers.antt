-- What is sent and kept for the bytes of a file.
use Rattle.std.proofs.Common.{◌≡◌, ℕ, Bool, true, false, List, [], ◌∷◌, Option, inl, inr, refl}
use Rattle.std.specs.Prelude.{Result, Ok, Err}
use Rattle.ofx_ports.specs.Known.{Grows}
use Rattle.ofx_types.specs.ReplyForm.{reply_text}
use Rattle.ofx_types.specs.declared.number.Moment.{Moment}
use Rattle.ofx_types.specs.declared.number.UserId.{UserId}
use Rattle.ofx_types.specs.declared.request.RequestFile.{RequestFile}
use Rattle.bank_model.specs.declared.setup.Setup.{Setup}
use Rattle.bank_model.specs.declared.event.State.{State}
use Rattle.bank_model.specs.declared.event.Event.TheVariants.{File}
use Rattle.bank_model.specs.Rules.{answer_to, state_after, denial}
use Rattle.bank_model.specs.Polls.{is_poll, poll_reply}
use Rattle.event_codec.specs.Records.{Codes}
use Rattle.bank_signon.specs.Signon.{IsSignedOn, IsDenied}
use Rattle.bank_desk.specs.Keeping.{Keeps}
use Rattle.bank_desk.specs.Answering.{Sends, FileUnkept}
use Rattle.bank_desk.specs.declared.fault.DeskFault.{DeskFault}
use Rattle.bank_desk.specs.declared.fault.DeskFault.TheVariants.{NoMemory, AppendFailed}
use Rattle.ofx_ports.proofs.KnownLaws.{Grows-nil}

-- what is sent for a file with the records that are kept of it
abbrev pub SendsKeeping : (List ℕ → List ℕ) → Setup → Moment → State → List ℕ → Option (List (List ℕ)) → Option (List (List ℕ)) → State → List ℕ → Type 0
SendsKeeping sent setup at before bytes reported reported' after line = (records : List (List ℕ)) × Sends sent setup at before bytes line records after × Grows reported reported' records

-- an event that happened
pub file_answered : (sent : List ℕ → List ℕ) (setup : Setup) (at : Moment) (before after : State) (bytes line : List ℕ) (user : UserId) (file : RequestFile) (reported reported' : Option (List (List ℕ))) → IsSignedOn setup bytes file user → is_poll file ≡ false →
    after ≡ state_after setup before at (File user file) → line ≡ sent (answer_to setup before at (File user file)) → ((rec : List ℕ) × Codes rec at (File user file) × Grows reported reported' (rec ∷ [])) → SendsKeeping sent setup at before bytes reported reported' after line
file_answered sent setup at before after bytes line user file reported reported' signed event state reply (rec, codes, grows) = (
  rec ∷ [],
  inl (record { file = file; user = user; is_signed_on = signed; is_event = event; kept = (codes, refl); reply = reply; state = state }),
  grows,
)

-- one whose append failed
pub file_unkept : {A : Type 0} (setup : Setup) (at : Moment) (bytes : List ℕ) (user : UserId) (file : RequestFile) (reported reported' : Option (List (List ℕ))) (landed : Option Bool) (result : Result A DeskFault) → IsSignedOn setup bytes file user → is_poll file ≡ false → Keeps at (File user file) reported reported' landed result → result ≡ Err AppendFailed →
    FileUnkept setup at bytes reported reported' landed
file_unkept setup at bytes user file reported reported' landed (Ok line) signed event kept is = cc
file_unkept setup at bytes user file reported reported' landed (Err NoMemory) signed event kept is = cc
file_unkept setup at bytes user file reported reported' landed (Err AppendFailed) signed event (rec, codes, lands) is =
    record { file = file; user = user; is_signed_on = signed; is_event = event; rec = rec; codes = codes; lands = lands }

-- a poll, and a failed signon
pub file_polled : (sent : List ℕ → List ℕ) (setup : Setup) (at : Moment) (before : State) (bytes : List ℕ) (user : UserId) (file : RequestFile) (reported : Option (List (List ℕ))) (line : List ℕ) → IsSignedOn setup bytes file user → is_poll file ≡ true → line ≡ sent (reply_text (poll_reply setup before user at file)) → SendsKeeping sent setup at before bytes reported reported before line
file_polled sent setup at before bytes user file reported line signed poll reply =
    ([], inr (inl (record { file = file; user = user; is_signed_on = signed; is_no_event = poll; unkept = refl; reply = reply; state = refl })), Grows-nil reported)

pub file_denied : (sent : List ℕ → List ℕ) (setup : Setup) (at : Moment) (before : State) (bytes : List ℕ) (file : RequestFile) (reported : Option (List (List ℕ))) (line : List ℕ) → IsDenied setup bytes file → line ≡ sent (reply_text (denial file at)) → SendsKeeping sent setup at before bytes reported reported before line
file_denied sent setup at before bytes file reported line denied reply =
    ([], inr (inr (record { file = file; is_denied = denied; unkept = refl; reply = reply; state = refl })), Grows-nil reported)
