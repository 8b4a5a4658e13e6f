-- The bank of a run, opened from the records that are kept.
use Rattle.std.specs.Prelude.{ℕ, List, Option}
use Rattle.ofx_ports.specs.Faults.{Rose}
use Rattle.bank_model.specs.declared.setup.Setup.{Setup}
use Rattle.bank_replay.specs.Opening.{HasNoForm, IsNotLegal}
use Rattle.bank_replay.specs.declared.fault.OpenFault.{OpenFault}
use Rattle.bank_replay.specs.declared.fault.OpenFault.TheVariants as opens
use Rattle.bank_opening.specs.declared.stop.RecordsFault.TheVariants.{NoForm, NotLegal}
use Rattle.bank_opening.specs.declared.stop.Stop.{Stop}
use Rattle.bank_opening.specs.declared.stop.Stop.TheVariants as stops

-- A bank doesn't open because a record codes no event, or none that is legal after those before it, because a call of the
-- keeper failed, or for want of memory.
abbrev pub StopsOpening : Setup → Option (List (List ℕ)) → ℕ → ℕ → Stop → Type 0
StopsOpening setup reported before now (stops.Records (NoForm number offset)) = HasNoForm setup reported number offset
StopsOpening setup reported before now (stops.Records (NotLegal number)) = IsNotLegal setup reported number
StopsOpening setup reported before now stops.KeeperFailed = Rose before now
StopsOpening setup reported before now stops.NoMemory = Unit {0}
StopsOpening setup reported before now stops.ReadFailed = ⊥
StopsOpening setup reported before now stops.WriteFailed = ⊥
StopsOpening setup reported before now stops.Usage = ⊥
StopsOpening setup reported before now (stops.Setup line) = ⊥
StopsOpening setup reported before now (stops.Frame offset) = ⊥
StopsOpening setup reported before now (stops.Letter fault) = ⊥

-- With what a run stops whose bank doesn't open.
abbrev pub opening_stop : OpenFault → Stop
opening_stop opens.Read = stops.KeeperFailed
opening_stop (opens.Record number offset) = stops.Records (NoForm number offset)
opening_stop (opens.Illegal number) = stops.Records (NotLegal number)
opening_stop opens.OutOfMemory = stops.NoMemory
