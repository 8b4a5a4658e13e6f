-- How an append changes the disk.
use Rattle.std.specs.Prelude.{◌≡◌, ◌⊎◌, ℕ, ◌+◌, ◌≤◌, ◌<◌, ◌^◌, List, [], ◌∷◌, ◌++◌, length, take, Option, None, Some}
use Rattle.disk_keeper.specs.Disk.{History, MayLeave, Leaves, LeavesThroughout, after, shown}
use Rattle.disk_keeper.specs.File.{size_bytes}
use Rattle.disk_keeper.specs.Layout.{IsFile, MayHave}
use Rattle.disk_keeper.specs.declared.change.Change.{Change}
use Rattle.disk_keeper.specs.declared.change.Change.TheVariants.{Write, Sync}
use Rattle.disk_keeper.specs.declared.appending.Reached.{Reached}
use Rattle.disk_keeper.specs.declared.appending.Reached.TheVariants.{Acknowledged, Body, Gate}

-- only writes, at this offset or after it
abbrev pub WriteAfter : ℕ → List Change → Type 0
WriteAfter offset [] = Unit {0}
WriteAfter offset (Write at size bytes ∷ more) = (offset ≤ at) × WriteAfter offset more
WriteAfter offset (Sync ∷ more) = ⊥

-- Since a history there were only writes, at this offset or after it.
abbrev pub WritesAfter : ℕ → History → Option History → Type 0
WritesAfter offset old new = (more : List Change) × (new ≡ Some (after old more)) × WriteAfter offset more

-- The image is this.
abbrev pub HasImage : Option History → List ℕ → Type 0
HasImage None file = ⊥
HasImage (Some history) file = shown history ≡ file

-- The body comes after the gate: the length, the bytes and a gate that is shut.
abbrev pub HasBody : ℕ → List ℕ → List ℕ → Option History → Type 0
HasBody gate begun old new = (rest : List ℕ) × HasImage new (take (gate + 1) old ++ size_bytes (length begun) ++ begun ++ 0 ∷ rest)

-- A crash leaves this alone.
abbrev pub IsSettled : History → Type 0
IsSettled history = Leaves (λ crash. crash ≡ shown history) history

-- the offset of the gate after a record
abbrev pub offset_after : ℕ → List ℕ → ℕ
offset_after gate begun = gate + 9 + length begun

-- What an append has come to, by how far it reached.
abbrev pub ReachedBy : List (List ℕ) → ℕ → List ℕ → Reached → History → Type 0
ReachedBy records gate begun (Acknowledged next) history = IsFile (records ++ begun ∷ []) next (shown history) × IsSettled history
ReachedBy records gate begun Body history = IsFile records gate (shown history) × Leaves (IsFile records gate) history
ReachedBy records gate begun (Gate next) history =
    MayHave records begun gate next (shown history) × Leaves (MayHave records begun gate next) history

-- From the records on a settled disk to what an append has come to: at each moment a crash leaves them, or these and the
-- one that was begun.
pub record Appends (records : List (List ℕ)) (gate : ℕ) (begun : List ℕ) (reached : Reached) (old : History) (new : Option History) : Type 0 where
  pub more : List Change
  pub known : new ≡ Some (after old more)
  pub moments : LeavesThroughout (MayHave records begun gate (offset_after gate begun)) old more
  pub now : ReachedBy records gate begun reached (after old more)

-- the next gate is at its offset, within the bytes
abbrev pub IsNext : ℕ → List ℕ → ℕ → ℕ → Type 0
IsNext gate begun next size = (next ≡ offset_after gate begun) × (next < size) × (next < 2 ^ 63)

abbrev pub HasNext : ℕ → List ℕ → ℕ → Reached → Type 0
HasNext gate begun size (Acknowledged next) = IsNext gate begun next size
HasNext gate begun size Body = Unit {0}
HasNext gate begun size (Gate next) = IsNext gate begun next size

-- the append wasn't acknowledged
abbrev pub Stopped : Reached → Type 0
Stopped (Acknowledged next) = ⊥
Stopped Body = Unit {0}
Stopped (Gate next) = Unit {0}
