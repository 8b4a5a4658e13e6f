-- What the calls of a journal make of it that settle what is pending.
use Rattle.std.specs.Prelude.{Bool}
use Rattle.bank_model.specs.declared.submit.SubmitFault.{SubmitFault}
use Rattle.bank_model.specs.declared.submit.SubmitFault.TheVariants.{Keeper, OutOfMemory}
use Rattle.bank_engine.specs.Calls.{IsAsBefore, Settles, StaysPending}
use Rattle.bank_engine.specs.Views.{JournalView}

-- A fault of the keeper, and no want of memory.
abbrev pub IsOfKeeper : SubmitFault → Type 0
IsOfKeeper (Keeper count) = Unit {0}
IsOfKeeper OutOfMemory = ⊥

-- What was pending is settled: the event was adopted, or it is as if it never had been.
abbrev pub IsSettled : JournalView → JournalView → Type 0
IsSettled old new = (adopted : Bool) × Settles old new adopted

-- It couldn't be settled, or there was no memory for the list of the accounts that its event names.
abbrev pub LeavesPending : JournalView → JournalView → SubmitFault → Type 0
LeavesPending old new (Keeper count) = StaysPending old new count
LeavesPending old new OutOfMemory = IsAsBefore old new
