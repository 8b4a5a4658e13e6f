-- What is reported of the end of a command.
use Rattle.std.specs.Prelude.{ℕ, Result, Ok, Err}
use Rattle.ofx_types.specs.declared.told.Note.{Note}
use Rattle.ofx_types.specs.declared.told.Note.TheVariants.{Plain, Place, Record, Illegal, NoUser, Full}
use Rattle.ofx_types.specs.declared.told.Told.{Told}
use Rattle.bank_opening.specs.declared.stop.RecordsFault.{RecordsFault}
use Rattle.bank_opening.specs.declared.stop.RecordsFault.TheVariants.{NoForm, NotLegal}
use Rattle.bank_opening.specs.declared.stop.LetterFault.{LetterFault}
use Rattle.bank_opening.specs.declared.stop.LetterFault.TheVariants as faults
use Rattle.bank_opening.specs.declared.stop.Stop.{Stop}
use Rattle.bank_opening.specs.declared.stop.Stop.TheVariants as stops

-- a status and its note
abbrev pub reported : ℕ → Note → Told
reported status note = record { status = record { 0 = status }; note = note }

-- What is reported of a letter that can't be written: an input that is no body is refused at its first byte.
abbrev pub reported_of_letter : LetterFault → Told
reported_of_letter faults.NoBody = reported 4 (Place 0)
reported_of_letter faults.NoUser = reported 10 NoUser
reported_of_letter faults.Full = reported 10 Full

-- What is reported of records that are none of this bank: the first one that isn't, and the offset of its fault where it has one.
abbrev pub reported_of_records : RecordsFault → Told
reported_of_records (NoForm number offset) = reported 9 (Record number offset)
reported_of_records (NotLegal number) = reported 9 (Illegal number)

-- What is reported of each end: its status, the line of a setup's fault, and the offset of what is no frame.
abbrev pub reported_of : Result (Unit {0}) Stop → Told
reported_of (Ok done) = reported 0 Plain
reported_of (Err stops.Usage) = reported 2 Plain
reported_of (Err (stops.Setup line)) = reported 3 (Place line)
reported_of (Err (stops.Frame offset)) = reported 4 (Place offset)
reported_of (Err stops.ReadFailed) = reported 5 Plain
reported_of (Err stops.WriteFailed) = reported 6 Plain
reported_of (Err stops.NoMemory) = reported 7 Plain
reported_of (Err stops.KeeperFailed) = reported 8 Plain
reported_of (Err (stops.Records fault)) = reported_of_records fault
reported_of (Err (stops.Letter fault)) = reported_of_letter fault
