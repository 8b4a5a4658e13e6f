-- What opening a disk comes to.
use Rattle.std.specs.Prelude.{◌≡◌, ℕ, List, ⊤, true, false, Option, None, Some, Result, Ok, Err}
use Rattle.disk_keeper.specs.Disk.{History, shown}
use Rattle.disk_keeper.specs.File.{has_mark, found_in, listed}
use Rattle.disk_keeper.specs.DiskKeeperView.{DiskKeeperView, records_on, Lists}
use Rattle.disk_keeper.specs.declared.fault.DiskFault.{DiskFault}
use Rattle.disk_keeper.specs.declared.fault.DiskFault.TheVariants.{Failed, BadMark, BadRecord}

-- the disk under a keeper, or the one that is handed back
abbrev pub disk_of : {D : Type 0} → Result (DiskKeeperView D) (DiskFault D) → D
disk_of (Ok keeper) = keeper.disk
disk_of (Err (Failed disk)) = disk
disk_of (Err (BadMark disk)) = disk
disk_of (Err (BadRecord disk number)) = disk

-- a call of the disk failed
abbrev pub DiskFailed : {D : Type 0} → Result (DiskKeeperView D) (DiskFault D) → Type 0
DiskFailed (Ok keeper) = ⊥
DiskFailed (Err (Failed disk)) = Unit {0}
DiskFailed (Err (BadMark disk)) = ⊥
DiskFailed (Err (BadRecord disk number)) = ⊥

-- Where no call failed, and the disk tells: the keeper has the records that the image lists; the mark is missing; or the
-- record or gate of this number is the first that passes the end.
abbrev pub OpensReported : {D : Type 0} → List ℕ → Result (DiskKeeperView D) (DiskFault D) → (D → Option History) → Type 0
OpensReported file (Ok keeper) history = (records : List (List ℕ)) × Lists records file × (records_on (history keeper.disk) ≡ Some records)
OpensReported file (Err (Failed disk)) history = Unit {0}
OpensReported file (Err (BadMark disk)) history = has_mark file ≡ false
OpensReported file (Err (BadRecord disk number)) history = (has_mark file ≡ true) × (found_in file ≡ Err number)

abbrev pub Opens : {D : Type 0} → (D → Option History) → Option History → Result (DiskKeeperView D) (DiskFault D) → Type 0
Opens history None result = ⊤
Opens history (Some old) result = OpensReported (shown old) result history
