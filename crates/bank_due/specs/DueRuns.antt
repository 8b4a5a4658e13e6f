-- A run of due work of one caller of a bank, and why it ended.
use Rattle.std.specs.Prelude.{◌≡◌, ℕ, ◌<◌, List, [], ◌∷◌, ◌++◌, length, Result, Ok, Err}
use Rattle.ofx_types.specs.declared.number.Moment.{Moment}
use Rattle.bank_model.specs.DueRun.{run_length}
use Rattle.bank_model.specs.declared.event.Event.{Event}
use Rattle.bank_model.specs.declared.event.Event.TheVariants.{File, Post, Spawn, Letter}
use Rattle.bank_model.specs.declared.setup.Setup.{Setup}
use Rattle.bank_model.specs.declared.submit.SubmitFault.{SubmitFault}
use Rattle.bank_model.specs.declared.submit.SubmitFault.TheVariants as refused
use Rattle.bank_callers.specs.Callers.{CallerView}
use Rattle.bank_shared.specs.Advancing.{HasDone, HasGone, HasNothing, IsUnadvanced}
use Rattle.bank_due.specs.declared.fault.DueFault.{DueFault}
use Rattle.bank_due.specs.declared.fault.DueFault.TheVariants as faults

-- One event after another was due, and has happened. An event that was due may have gone before it could happen; such events come
-- between.
abbrev pub Loses : Setup → Moment → CallerView → CallerView → List Event → Type 0
Loses setup at before after [] = after ≡ before
Loses setup at before after (gone ∷ more) = (between : CallerView) × HasGone setup at gone before between × Loses setup at between after more

abbrev pub DoesEach : Setup → Moment → CallerView → CallerView → List Event → Type 0
DoesEach setup at before after [] = after ≡ before
DoesEach setup at before after (event ∷ more) =
    (gone : List Event) × (look : CallerView) × (done : CallerView) × Loses setup at before look gone × HasDone setup at event look done
    × DoesEach setup at done after more

-- the transfer that an event posts, or the recurring transfer of which it makes one
abbrev pub id_in : Event → ℕ
id_in (File user file) = 0
id_in (Post id) = id
id_in (Spawn model k) = model
id_in (Letter user subject body) = 0

abbrev pub fault_of : SubmitFault → DueFault
fault_of (refused.Keeper count) = faults.Keeper count
fault_of refused.OutOfMemory = faults.OutOfMemory

-- So many events have happened, and then nothing was due.
pub record DoesAll (setup : Setup) (at : Moment) (before after : CallerView) (count : ℕ) : Type 0 where
  pub events : List Event
  pub gone : List Event
  pub done : CallerView
  pub look : CallerView
  pub counted : length events ≡ count
  pub does : DoesEach setup at before done events
  pub loses : Loses setup at done look gone
  pub nothing : HasNothing setup at look after

-- As many events as a run has have happened, and the last look found the last of them due.
pub record LeavesSome (setup : Setup) (at : Moment) (before after : CallerView) (id : ℕ) : Type 0 where
  pub earlier : List Event
  pub last : Event
  pub counted : length (earlier ++ last ∷ []) ≡ run_length
  pub does : DoesEach setup at before after (earlier ++ last ∷ [])
  pub id_is : id_in last ≡ id

-- Fewer events have happened, and then the next couldn't.
pub record Breaks (setup : Setup) (at : Moment) (before after : CallerView) (fault : SubmitFault) : Type 0 where
  pub events : List Event
  pub gone : List Event
  pub done : CallerView
  pub look : CallerView
  pub few : length events < run_length
  pub does : DoesEach setup at before done events
  pub loses : Loses setup at done look gone
  pub fails : IsUnadvanced setup at look after fault

abbrev pub RunsDue : Setup → Moment → CallerView → CallerView → Result ℕ DueFault → Type 0
RunsDue setup at before after (Ok count) = DoesAll setup at before after count
RunsDue setup at before after (Err (faults.Left id)) = LeavesSome setup at before after id
RunsDue setup at before after (Err (faults.Keeper count)) = Breaks setup at before after (refused.Keeper count)
RunsDue setup at before after (Err faults.OutOfMemory) = Breaks setup at before after refused.OutOfMemory
