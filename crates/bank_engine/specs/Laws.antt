-- Laws of journals, of logs and of their records.
use Rattle.std.specs.Prelude.{◌≡◌, ℕ, Bool, List, [], ◌∷◌, ◌++◌, Option, None}
use Rattle.bank_model.specs.declared.event.Event.{Event}
use Rattle.bank_model.specs.declared.event.State.{State}
use Rattle.bank_model.specs.declared.log.LogItem.{LogItem}
use Rattle.bank_model.specs.declared.log.LogItem.TheVariants.{Effect, Answer, Adopted, Fault}
use Rattle.bank_model.specs.declared.setup.Setup.{Setup}
use Rattle.bank_model.specs.Log.{endings}
use Rattle.bank_model.specs.LegalLog.{IsWholeLog, ends}
use Rattle.bank_model.specs.Rules.{opening_state, answer_to}
use Rattle.bank_model.specs.declared.submit.SubmitFault.{SubmitFault}
use Rattle.event_codec.specs.Records.{Codes, Reopens}
use Rattle.ofx_types.specs.declared.number.Moment.{Moment}
use Rattle.bank_engine.specs.Calls.{Answers, FailsToCommit, Settles, FailsToSettle}
use Rattle.bank_engine.specs.Kept.{CodeEndings}
use Rattle.bank_engine.specs.Truth.{IsTrue}
use Rattle.bank_engine.specs.Views.{JournalView}

-- What holds before a call holds after it.
abbrev pub Keeps : JournalView → JournalView → Type 0
Keeps old new = (setup : Setup) (opening : State) (first : Option (List (List ℕ))) → IsTrue setup opening first old → IsTrue setup opening first new

-- So it is where an event is answered, where it couldn't be committed, where what was pending is settled, and where it couldn't be.
pub record TruthGoesOn : Type 0 where
  pub answers : (old new : JournalView) (event : Event) (at : Moment) (reply : List ℕ) → old.pending ≡ None → Answers old new event at reply → Keeps old new
  pub fails : (old new : JournalView) (event : Event) (at : Moment) (fault : SubmitFault) → old.pending ≡ None → FailsToCommit old new event at fault → Keeps old new
  pub settles : (old new : JournalView) (adopted : Bool) → Settles old new adopted → Keeps old new
  pub unsettled : (old new : JournalView) (fault : SubmitFault) → FailsToSettle old new fault → Keeps old new

-- An event was answered as the bank answers it in the state to which the records before its own lead.
pub record IsAnswered (setup : Setup) (earlier : List (List ℕ)) (rec : List ℕ) (event : Event) (at : Moment) (reply : List ℕ) : Type 0 where
  pub codes : Codes rec at event
  pub state : State
  pub reopens : Reopens setup opening_state earlier state
  pub reply_is : reply ≡ answer_to setup state at event

-- After the earlier records there is one for each event that was answered or adopted, in order, and each answer is the bank's at
-- its own record.
abbrev pub AreAnswered : Setup → (earlier : List (List ℕ)) → List LogItem → (records : List (List ℕ)) → Type 0
AreAnswered setup earlier [] records = records ≡ []
AreAnswered setup earlier (Effect entry ∷ more) records = AreAnswered setup earlier more records
AreAnswered setup earlier (Fault count pending ∷ more) records = AreAnswered setup earlier more records
AreAnswered setup earlier (Answer event at reply ∷ more) [] = ⊥
AreAnswered setup earlier (Answer event at reply ∷ more) (rec ∷ records) =
    IsAnswered setup earlier rec event at reply × AreAnswered setup (earlier ++ rec ∷ []) more records
AreAnswered setup earlier (Adopted fault event at ∷ more) [] = ⊥
AreAnswered setup earlier (Adopted fault event at ∷ more) (rec ∷ records) =
    Codes rec at event × AreAnswered setup (earlier ++ rec ∷ []) more records

-- After the records from which a bank opened, those of a whole log lead to the state in which it ends.
pub record LeadsOn (setup : Setup) (opening : State) (first coded : List (List ℕ)) (log : List LogItem) : Type 0 where
  pub reopens : Reopens setup opening_state (first ++ coded) (ends setup opening log)
  pub answers : AreAnswered setup first (endings log) coded

abbrev pub LogsReopen : Type 0
LogsReopen = (setup : Setup) (opening : State) (first coded : List (List ℕ)) (log : List LogItem)
    → Reopens setup opening_state first opening → IsWholeLog setup opening log → CodeEndings (endings log) coded → LeadsOn setup opening first coded log
