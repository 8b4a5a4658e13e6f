-- The bank's half of the world, and what happens to it: an event is made to happen, or its append fails; what that left open is
-- settled; the bank starts anew from its records.
use Rattle.std.specs.Prelude.{◌≡◌, ◌⊎◌, ℕ, Bool, List, [], ◌∷◌, ◌++◌, if◌then◌else◌, Option, None, Some}
use Rattle.ofx_types.specs.declared.number.Moment.{Moment}
use Rattle.ofx_types.specs.declared.number.UserId.{UserId}
use Rattle.bank_model.specs.declared.setup.Setup.{Setup}
use Rattle.bank_model.specs.declared.event.Event.{Event}
use Rattle.bank_model.specs.declared.event.Event.TheVariants.{Letter}
use Rattle.bank_model.specs.declared.event.State.{State}
use Rattle.bank_model.specs.Rules.{IsLegal, opening_state, state_after, answer_to, due}
use Rattle.event_codec.specs.Coding.{coded}
use Rattle.event_codec.specs.Records.{Reopens}

-- An event whose append failed at its moment, and whether its record is stored all the same.
pub record PendingView : Type 0 where
  pub event : Event
  pub at : Moment
  pub landed : Bool

-- The setup and the state of the bank, the records that aren't pending, oldest first, what is pending, and the fault that is
-- set for the next append: its record will be stored all the same, or won't.
pub record ServerView : Type 0 where
  pub setup : Setup
  pub state : State
  pub records : List (List ℕ)
  pub pending : Option PendingView
  pub fault : Option Bool

-- A fresh bank has no records.
abbrev pub fresh : Setup → ServerView
fresh setup = record { setup = setup; state = opening_state; records = []; pending = None; fault = None }

-- ---- events

-- An event happens: the bank is in the state that it leaves, its record is stored after the others, and nothing is pending.
abbrev pub happened : ServerView → Moment → Event → ServerView
happened server at event = record {
  setup = server.setup;
  state = state_after server.setup server.state at event;
  records = server.records ++ coded at event ∷ [];
  pending = None;
  fault = server.fault;
}

-- An event's append fails: the event is pending, the state stays, and the fault is used up.
abbrev pub put_off : ServerView → Moment → Event → Bool → ServerView
put_off server at event landed = record {
  setup = server.setup;
  state = server.state;
  records = server.records;
  pending = Some (record { event = event; at = at; landed = landed });
  fault = None;
}

-- Where nothing is pending an event happens, unless a fault is set.
abbrev pub happened_unless : ServerView → Moment → Event → Option Bool → ServerView
happened_unless server at event None = happened server at event
happened_unless server at event (Some landed) = put_off server at event landed

unfoldable pub committed : ServerView → Moment → Event → ServerView
committed server at event = happened_unless server at event server.fault

-- The reply that is given then: the bank's, or none where the append fails.
abbrev pub reply_unless : ServerView → Moment → Event → Option Bool → Option (List ℕ)
reply_unless server at event None = Some (answer_to server.setup server.state at event)
reply_unless server at event (Some landed) = None

unfoldable pub reply_to : ServerView → Moment → Event → Option (List ℕ)
reply_to server at event = reply_unless server at event server.fault

-- ---- settling

-- It is given up, and as if it had never been.
abbrev pub given_up : ServerView → ServerView
given_up server = record {
  setup = server.setup;
  state = server.state;
  records = server.records;
  pending = None;
  fault = server.fault;
}

-- What is pending has happened at its moment where its record is stored. Otherwise it is given up.
abbrev pub settled_as : ServerView → Option PendingView → ServerView
settled_as server None = server
settled_as server (Some pending) = if pending.landed then happened server pending.at pending.event else given_up server

unfoldable pub settled : ServerView → ServerView
settled server = settled_as server server.pending

-- ---- what the bank does by itself

-- What is pending is settled, and then the next of the due work is done, where there is any.
abbrev pub done_if : ServerView → Moment → Option Event → ServerView
done_if server at None = server
done_if server at (Some event) = committed server at event

unfoldable pub due_done : ServerView → Moment → ServerView
due_done server at = done_if (settled server) at (due server.setup (settled server).state at)

-- What is pending is settled, and then a letter is written, where it is legal.
abbrev pub WritesLetter : ServerView → Moment → UserId → List ℕ → List ℕ → ServerView → Type 0
WritesLetter server at user subject body after =
    (IsLegal server.setup (settled server).state at (Letter user subject body)
    × (after ≡ committed (settled server) at (Letter user subject body)))
    ⊎ ((IsLegal server.setup (settled server).state at (Letter user subject body) → ⊥) × (after ≡ settled server))

-- ---- faults and restarts

abbrev pub with_fault : ServerView → Bool → ServerView
with_fault server landed = record {
  setup = server.setup;
  state = server.state;
  records = server.records;
  pending = server.pending;
  fault = Some landed;
}

abbrev pub with_state : ServerView → State → ServerView
with_state server state = record {
  setup = server.setup;
  state = state;
  records = server.records;
  pending = server.pending;
  fault = server.fault;
}

-- What is pending is settled, and then the bank is in the state that its records lead to, whatever it was in before.
abbrev pub Restarts : ServerView → ServerView → Type 0
Restarts server after =
    (state : State) × Reopens server.setup opening_state (settled server).records state × (after ≡ with_state (settled server) state)
