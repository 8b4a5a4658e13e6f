-- A bank that is served, as the world's bank: what comes to its end in its log the world's bank does by its own steps.
use Rattle.std.specs.Prelude.{◌≡◌, ℕ, ◌⊎◌, Bool, true, List, [], ◌∷◌, Option, None, Some}
use Rattle.ofx_types.specs.declared.number.Moment.{Moment}
use Rattle.bank_model.specs.declared.event.Event.{Event}
use Rattle.bank_model.specs.declared.log.LogItem.{LogItem}
use Rattle.bank_model.specs.declared.log.LogItem.TheVariants.{Effect, Answer, Adopted, Fault}
use Rattle.bank_model.specs.declared.event.State.{State}
use Rattle.bank_model.specs.declared.setup.Setup.{Setup}
use Rattle.bank_model.specs.Rules.{IsLegal}
use Rattle.event_codec.specs.Coding.{coded}
use Rattle.event_codec.specs.Records.{Codes}
use Rattle.ofx_world.specs.Server.{ServerView, committed, reply_to, settled, with_fault}

-- A bank with nothing pending, whose next append doesn't fail.
abbrev pub at_rest : Setup → State → List (List ℕ) → ServerView
at_rest setup state records = record { setup = setup; state = state; records = records; pending = None; fault = None }

-- An event may be committed in a state at a moment: it is legal there, and its record codes it.
pub record MayCommit (setup : Setup) (state : State) (at : Moment) (event : Event) : Type 0 where
  pub legal : IsLegal setup state at event
  pub codes : Codes (coded at event) at event

-- ---- one ending

-- The event is committed once what was pending is settled, and gets this reply.
pub record IsAnswered (before : ServerView) (event : Event) (at : Moment) (reply : List ℕ) (after : ServerView) : Type 0 where
  pub may : MayCommit (settled before).setup (settled before).state at event
  pub reply_is : reply_to (settled before) at event ≡ Some reply
  pub after_is : after ≡ committed (settled before) at event

-- The event was pending with its record stored, and is settled.
pub record IsAdopted (before : ServerView) (event : Event) (at : Moment) (after : ServerView) : Type 0 where
  pub pending : before.pending ≡ Some (record { event = event; at = at; landed = true })
  pub after_is : after ≡ settled before

-- A fault is set, and then the event's commit fails, with its record stored or without it.
pub record IsPutOff (before : ServerView) (event : Event) (at : Moment) (after : ServerView) : Type 0 where
  pub landed : Bool
  pub may : MayCommit (settled before).setup (settled before).state at event
  pub after_is : after ≡ committed (with_fault (settled before) landed) at event

-- An event whose append failed is put off, or was lost and leaves no trace. A settling that failed changes nothing.
abbrev pub Fails : ServerView → Option (Event × Moment) → ServerView → Type 0
Fails before None after = after ≡ before
Fails before (Some pending) after = IsPutOff before pending.0 pending.1 after ⊎ (after ≡ settled before)

-- What the world's bank does where this comes to its end in a log.
abbrev pub EndsAs : ServerView → LogItem → ServerView → Type 0
EndsAs before (Effect entry) after = ⊥
EndsAs before (Answer event at reply) after = IsAnswered before event at reply after
EndsAs before (Adopted fault event at) after = IsAdopted before event at after
EndsAs before (Fault count pending) after = Fails before pending after

-- ---- all endings

-- It does so for each ending, one after another.
abbrev pub GoesAlong : ServerView → List LogItem → ServerView → Type 0
GoesAlong before [] after = after ≡ before
GoesAlong before (item ∷ more) after = (between : ServerView) × EndsAs before item between × GoesAlong between more after

-- It commits the events that these records code, one after another.
abbrev pub ComesBy : ServerView → List (List ℕ) → ServerView → Type 0
ComesBy before [] after = after ≡ before
ComesBy before (rec ∷ records) after =
    (at : Moment) × (event : Event) × Codes rec at event × MayCommit before.setup before.state at event
    × ComesBy (committed before at event) records after
