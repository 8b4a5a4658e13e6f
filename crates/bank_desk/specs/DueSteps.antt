-- A run of due work, one event after another.
use Rattle.std.specs.Prelude.{◌≡◌, ℕ, ◌<◌, ◌≤◌, Bool, true, false, List, [], ◌∷◌, length, Option, None, Some}
use Rattle.ofx_types.specs.declared.number.Moment.{Moment}
use Rattle.bank_model.specs.Rules.{state_after, due}
use Rattle.bank_model.specs.DueRun.{after_events, AreDue, run_length, IsDueRun}
use Rattle.bank_model.specs.declared.event.Event.{Event}
use Rattle.bank_core.specs.BookView.{BookView}
use Rattle.event_codec.specs.Records.{IsWritten}
use Rattle.ofx_ports.specs.Known.{Stays, Grows}
use Rattle.ofx_ports.specs.Kept.{MayGrow}
use Rattle.bank_desk.specs.Keeping.{AreRecordsOf}
use Rattle.bank_desk.specs.declared.fault.DeskFault.{DeskFault}
use Rattle.bank_desk.specs.declared.fault.DeskFault.TheVariants.{NoMemory, AppendFailed}

-- The event that is due next happened and is kept; or none is due, and nothing happened.
abbrev pub RunsNext : Moment → BookView → BookView → Option (List (List ℕ)) → Option (List (List ℕ)) → Bool → Type 0
RunsNext at before after reported reported' true =
    (event : Event) × (rec : List ℕ) × (due before.setup before.state at ≡ Some event) × IsWritten rec at event × Grows reported reported' (rec ∷ [])
    × (after.state ≡ state_after before.setup before.state at event)
RunsNext at before after reported reported' false = (due before.setup before.state at ≡ None) × Stays reported reported' × (after.state ≡ before.state)

-- The event that is due next didn't happen. Where its append failed its record is kept if it has landed.
abbrev pub LeavesNext : Moment → BookView → BookView → Option (List (List ℕ)) → Option (List (List ℕ)) → Option Bool → DeskFault → Type 0
LeavesNext at before after reported reported' landed NoMemory = Stays reported reported' × (after.state ≡ before.state)
LeavesNext at before after reported reported' landed AppendFailed =
    (event : Event) × (rec : List ℕ) × (due before.setup before.state at ≡ Some event) × IsWritten rec at event
    × MayGrow reported reported' landed rec × (after.state ≡ before.state)

-- A whole run of so many events was made, and is kept.
pub record MadeRun (at : Moment) (before after : BookView) (reported reported' : Option (List (List ℕ))) (count : ℕ) : Type 0 where
  pub events : List Event
  pub records : List (List ℕ)
  pub kept : AreRecordsOf at events records
  pub grows : Grows reported reported' records
  pub is_run : IsDueRun before.setup before.state at events
  pub counted : length events ≡ count
  pub state : after.state ≡ after_events before.setup before.state at events

-- ---- a run that isn't made to its end

-- These events of a run have happened, and the bank is in the state that they left.
pub record HasBegun (at : Moment) (before after : BookView) (events : List Event) (records : List (List ℕ)) : Type 0 where
  pub are_due : AreDue before.setup before.state at events
  pub few : length events ≤ run_length
  pub kept : AreRecordsOf at events records
  pub state : after.state ≡ after_events before.setup before.state at events

-- Where memory was refused just their records are kept.
pub record WorkRefused (at : Moment) (before after : BookView) (reported reported' : Option (List (List ℕ))) : Type 0 where
  pub events : List Event
  pub records : List (List ℕ)
  pub begun : HasBegun at before after events records
  pub grows : Grows reported reported' records

-- Where an append failed the one that was due next didn't happen, and its record is kept after theirs if it has landed.
pub record WorkUnkept (at : Moment) (before after : BookView) (reported reported' : Option (List (List ℕ))) (landed : Option Bool) : Type 0 where
  pub events : List Event
  pub records : List (List ℕ)
  pub begun : HasBegun at before after events records
  pub between : Option (List (List ℕ))
  pub grows : Grows reported between records
  pub event : Event
  pub rec : List ℕ
  pub room : length events < run_length
  pub next : due after.setup after.state at ≡ Some event
  pub codes : IsWritten rec at event
  pub lands : MayGrow between reported' landed rec

abbrev pub StoppedWork : Moment → BookView → BookView → Option (List (List ℕ)) → Option (List (List ℕ)) → Option Bool → DeskFault → Type 0
StoppedWork at before after reported reported' landed NoMemory = WorkRefused at before after reported reported'
StoppedWork at before after reported reported' landed AppendFailed = WorkUnkept at before after reported reported' landed
