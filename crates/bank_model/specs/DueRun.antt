-- A run of what is due at a moment: one event after another, until none is due or the run has its greatest length.
use Rattle.std.specs.Prelude.{◌≡◌, ℕ, ◌≤◌, ◌⊎◌, List, [], ◌∷◌, length, None, Some}
use Rattle.ofx_types.specs.declared.number.Moment.{Moment}
use Rattle.bank_model.specs.declared.setup.Setup.{Setup}
use Rattle.bank_model.specs.declared.event.State.{State}
use Rattle.bank_model.specs.declared.event.Event.{Event}
use Rattle.bank_model.specs.Rules.{state_after, due}

-- the state after events of one moment
abbrev pub after_events : Setup → State → Moment → List Event → State
after_events setup S at [] = S
after_events setup S at (event ∷ more) = after_events setup (state_after setup S at event) at more

-- Each event is the one that is due next in the state that the events before it left.
abbrev pub AreDue : Setup → State → Moment → List Event → Type 0
AreDue setup S at [] = Unit {0}
AreDue setup S at (event ∷ more) = (due setup S at ≡ Some event) × AreDue setup (state_after setup S at event) at more

-- a run of due work has at most 100,000 events
unfoldable pub run_length : ℕ
run_length = 100000

pub record IsDueRun (setup : Setup) (S : State) (at : Moment) (events : List Event) : Type 0 where
  pub are_due : AreDue setup S at events
  pub few : length events ≤ run_length
  pub ends : (length events ≡ run_length) ⊎ (due setup (after_events setup S at events) at ≡ None)
