-- What is always so of a keeper on a disk.
use Rattle.std.specs.Prelude.{◌≡◌, ℕ, ◌+◌, ◌<◌, ◌≤◌, ◌^◌, List, [], ◌∷◌, ◌++◌, length, Bool, true, false, ◌==◌, if◌then◌else◌, Option, None, Some}
use Rattle.disk_keeper.specs.Disk.{History, Leaves, shown}
use Rattle.disk_keeper.specs.Layout.{prefix, IsFile, MayHave}
use Rattle.disk_keeper.specs.Appending.{IsSettled}
use Rattle.disk_keeper.specs.Bounds.{IsWithin}
use Rattle.disk_keeper.specs.Passing.{Passed}
use Rattle.disk_keeper.specs.declared.reading.Gate.{Gate}
use Rattle.disk_keeper.specs.declared.begun.Begun.{Begun}
use Rattle.disk_keeper.specs.declared.begun.Begun.TheVariants.{Nothing, Body, Opening}

-- whether an append failed and is not settled
abbrev pub is_begun : Begun → Bool
is_begun Nothing = false
is_begun Body = true
is_begun (Opening next) = true

-- The gate after the record of an append that failed, where that is stored: the append had come to its gate, and the gate
-- is open.
abbrev pub opened_by : Begun → ℕ → Option ℕ
opened_by Nothing gate = None
opened_by Body gate = None
opened_by (Opening next) gate = if gate == 1 then Some next else None

-- What the disk has, by how far an append that failed had come: the records, all on the disk; the records, whatever a crash
-- leaves; or these or one more.
abbrev pub IsStored : List (List ℕ) → ℕ → Begun → History → Type 0
IsStored records offset Nothing history = IsFile records offset (shown history) × IsSettled history
IsStored records offset Body history = IsFile records offset (shown history) × Leaves (IsFile records offset) history
IsStored records offset (Opening next) history =
    (bytes : List ℕ) × MayHave records bytes offset next (shown history) × Leaves (MayHave records bytes offset next) history

-- The gate after a record whose append failed is within the file.
abbrev pub NextWithin : Gate → ℕ → Begun → Type 0
NextWithin end size Nothing = Unit {0}
NextWithin end size Body = Unit {0}
NextWithin end size (Opening next) = (next < size) × (next < 2 ^ 63) × (end.offset < next)

-- The records of a disk whose history is known, with the gate after them and the gate that was read last.
pub record Keeps (end last : Gate) (begun : Begun) (history : History) : Type 0 where
  pub records : List (List ℕ)
  pub count : end.records ≡ length records
  pub offset : end.offset ≡ length (prefix records)
  pub read : Passed records last
  pub now : IsStored records end.offset begun history

pub record IsSound (known : Option History) (size : ℕ) (end last : Gate) (begun : Begun) : Type 0 where
  pub within : IsWithin end size
  pub last_within : last.offset ≤ size
  pub last_before : last.records ≤ end.records
  pub next : NextWithin end size begun
  pub keeps : (history : History) → known ≡ Some history → Keeps end last begun history
