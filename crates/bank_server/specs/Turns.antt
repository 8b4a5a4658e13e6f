-- The turns of a worker, and why it ended.
use Rattle.std.specs.Prelude.{◌≡◌, ℕ, ◌<◌, ◌≤◌, ◌⊎◌, ◌==◌, Bool, true, false, if◌then◌else◌, List, [], ◌∷◌, ◌++◌, length, map, filter, Option, Result, Ok, Err}
use Rattle.ofx_ports.specs.Faults.{Rose}
use Rattle.ofx_ports.specs.Known.{Grows}
use Rattle.ofx_types.specs.declared.number.Moment.{Moment}
use Rattle.bank_model.specs.DueRun.{run_length}
use Rattle.bank_model.specs.declared.setup.Setup.{Setup}
use Rattle.bank_callers.specs.Callers.{CallerView, IsRightView}
use Rattle.bank_connection.specs.Connection.{Converses}
use Rattle.bank_due.specs.DueRuns.{RunsDue}
use Rattle.bank_due.specs.declared.fault.DueFault.{DueFault}
use Rattle.bank_due.specs.declared.fault.DueFault.TheVariants.{Left, Keeper, OutOfMemory}
use Rattle.http_link.specs.declared.served.Served.{Served}
use Rattle.http_link.specs.declared.served.ServeError.{ServeError}
use Rattle.bank_server.specs.declared.worker.WorkerEnd.{WorkerEnd}
use Rattle.bank_server.specs.Connected.{Faces, around_link, DoorView}

-- One turn of a worker: the moment of a due run and how it ended, and then one connection: its link as the doorway gave it, as it
-- was handed back, and how it was served.
pub record Turn (L : Type 0) : Type 0 where
  pub at : Moment
  pub due : Result ℕ DueFault
  pub given : L
  pub back : L
  pub answer : Result Served ServeError

-- A due run that ends well has had fewer events than a run has.
abbrev pub IsDueEnd : Result ℕ DueFault → Type 0
IsDueEnd (Ok count) = count < run_length
IsDueEnd (Err fault) = Unit {0}

-- The clock is read for a due run, which this is for the caller, and comes to this end. What the caller knows after it is right.
pub record DoesDueAt (setup : Setup) (shown shown' : Option (List Moment)) (before after : CallerView) (at : Moment) (due : Result ℕ DueFault) : Type 0 where
  pub moment : Grows shown shown' (at ∷ [])
  pub runs : RunsDue setup at before after due
  pub right : IsRightView setup after
  pub ends : IsDueEnd due

-- The clock is read for the due run, and then the link is served, over the log that the caller has seen by then.
pub record RunsTurn {L : Type 0} (faces : Faces L) (setup : Setup) (shown shown' : Option (List Moment)) (before after : CallerView) (turn : Turn L) : Type 0 where
  pub between : Option (List Moment)
  pub caller : CallerView
  pub does : DoesDueAt setup shown between before caller turn.at turn.due
  pub serves : Converses setup (around_link faces turn.given between caller) (around_link faces turn.back shown' after) turn.answer

-- Turns one after another. Nothing comes between them.
abbrev pub AreTurns : {L : Type 0} → Faces L → Setup → Option (List Moment) → Option (List Moment) → CallerView → CallerView → List (Turn L) → Type 0
AreTurns faces setup shown shown' before after [] = (shown' ≡ shown) × (after ≡ before)
AreTurns faces setup shown shown' before after (turn ∷ turns) = (between : Option (List Moment)) × (caller : CallerView)
    × RunsTurn faces setup shown between before caller turn × AreTurns faces setup between shown' caller after turns

-- ---- parts of turns

abbrev pub links_given : {L : Type 0} → List (Turn L) → List L
links_given {L} turns = map (λ (turn : Turn L). turn.given) turns

abbrev pub links_back : {L : Type 0} → List (Turn L) → List L
links_back {L} turns = map (λ (turn : Turn L). turn.back) turns

abbrev pub due_ends : {L : Type 0} → List (Turn L) → List (Result ℕ DueFault)
due_ends {L} turns = map (λ (turn : Turn L). turn.due) turns

-- a due run that ended for want of memory
abbrev pub is_missed : Result ℕ DueFault → Bool
is_missed (Ok count) = false
is_missed (Err (Left id)) = false
is_missed (Err (Keeper count)) = false
is_missed (Err OutOfMemory) = true

abbrev pub missed_in : List (Result ℕ DueFault) → ℕ
missed_in runs = length (filter is_missed runs)

-- ---- the end

-- the most connections of a worker: with 0 as many as a number has room for
abbrev pub greatest : ℕ → ℕ
greatest most = if most == 0 then 4294967295 else most

-- It has served as many as it may.
pub record HasServedAll (most : ℕ) (shown shown' : Option (List Moment)) (before after : CallerView) (ends : List (Result ℕ DueFault)) (end : WorkerEnd) : Type 0 where
  pub all : end.served ≡ greatest most
  pub status : end.status.0 ≡ 0
  pub missed : end.missed ≡ missed_in ends
  pub unread : shown' ≡ shown
  pub unchanged : after ≡ before

-- After one more due run its doorway was closed, or failed.
pub record HasNoDoor {L : Type 0} (setup : Setup) (door door' : DoorView L) (shown shown' : Option (List Moment)) (before after : CallerView) (ends : List (Result ℕ DueFault)) (end : WorkerEnd) : Type 0 where
  pub at : Moment
  pub due : Result ℕ DueFault
  pub does : DoesDueAt setup shown shown' before after at due
  pub missed : end.missed ≡ missed_in (ends ++ due ∷ [])
  pub cause : ((end.status.0 ≡ 0) × Rose door.closings door'.closings) ⊎ ((end.status.0 ≡ 5) × Rose door.faults door'.faults)

-- A worker has taken these turns. The links that its doorway gave in it are those of the turns, and each was handed back, in order.
-- The moments of due runs and exchanges are the clock's answers, and the endings that its pass has gained are theirs.
pub record Works {L : Type 0} (faces : Faces L) (setup : Setup) (most : ℕ) (door door' : DoorView L) (shown shown' : Option (List Moment)) (before after : CallerView) (end : WorkerEnd) : Type 0 where
  pub turns : List (Turn L)
  pub between : Option (List Moment)
  pub caller : CallerView
  pub are_turns : AreTurns faces setup shown between before caller turns
  pub given : Grows door.given door'.given (links_given turns)
  pub back : Grows door.back door'.back (links_back turns)
  pub served : end.served ≡ length turns
  pub few : end.served ≤ greatest most
  pub ends : HasServedAll most between shown' caller after (due_ends turns) end ⊎ HasNoDoor setup door door' between shown' caller after (due_ends turns) end
