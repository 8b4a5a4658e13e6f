-- What is reported of the end of a run.
use Rattle.std.specs.Prelude.{ℕ, Result, Ok, Err}
use Rattle.ofx_types.specs.declared.told.Note.{Note}
use Rattle.ofx_types.specs.declared.told.Note.TheVariants.{Plain, Place}
use Rattle.ofx_types.specs.declared.told.Told.{Told}
use Rattle.register_run.specs.declared.stop.Stop.{Stop}
use Rattle.register_run.specs.declared.stop.Stop.TheVariants as stops

abbrev pub reported : ℕ → Note → Told
reported status note = record { status = record { 0 = status }; note = note }

abbrev pub reported_of : Result (Unit {0}) Stop → Told
reported_of (Ok done) = reported 0 Plain
reported_of (Err (stops.Frame offset)) = reported 4 (Place offset)
reported_of (Err stops.ReadFailed) = reported 5 Plain
reported_of (Err stops.WriteFailed) = reported 6 Plain
reported_of (Err stops.NoMemory) = reported 7 Plain
reported_of (Err stops.StoreFailed) = reported 8 Plain
reported_of (Err (stops.BadStore offset)) = reported 15 (Place offset)
