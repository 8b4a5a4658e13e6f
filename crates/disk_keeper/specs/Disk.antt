-- A disk: what a read shows, and what a crash may leave.
use Rattle.std.specs.Prelude.{◌≡◌, ◌⊎◌, ℕ, ◌+◌, ◌≤◌, max, List, [], ◌∷◌, ◌++◌, length, take, drop, slice_range, ⊤, Option, None, Some, IsSome}
use Rattle.disk_keeper.specs.declared.change.Change.{Change}
use Rattle.disk_keeper.specs.declared.change.Change.TheVariants.{Write, Sync}

-- What was found on a disk and what was done to it since.
pub record History : Type 0 where
  -- its bytes at the start, which a crash then left as they were
  pub found : List ℕ
  -- what was done, the newest first
  pub changes : List Change

-- the bytes with these in place of those from an offset on, and longer where these pass the end
abbrev pub overlaid : List ℕ → ℕ → List ℕ → List ℕ
overlaid old at bytes = take at old ++ bytes ++ drop (at + length bytes) old

-- The image: what a read shows. A write shows at once. A sync changes nothing of it.
abbrev pub image : List ℕ → List Change → List ℕ
image found [] = found
image found (Write at size bytes ∷ changes) = overlaid (image found changes) at bytes
image found (Sync ∷ changes) = image found changes

-- After a write of so many bytes that a crash cuts short: any bytes in its range and past the old end, which may have
-- moved or not, and the same elsewhere.
pub record Torn (at size : ℕ) (old new : List ℕ) : Type 0 where
  pub before : take at new ≡ take at old
  pub suffix : drop (at + size) new ≡ drop (at + size) old
  pub no_shorter : length old ≤ length new
  pub no_longer : length new ≤ max (length old) (at + size)

-- What a crash may leave. Each write since the last sync may be torn, and all other bytes stay. A sync puts the image on
-- the disk, so that a crash leaves just that.
abbrev pub MayLeave : List ℕ → List Change → List ℕ → Type 0
MayLeave found [] crash = crash ≡ found
MayLeave found (Write at size bytes ∷ changes) crash = (earlier : List ℕ) × MayLeave found changes earlier × Torn at size earlier crash
MayLeave found (Sync ∷ changes) crash = crash ≡ image found changes

-- the image after all these changes
abbrev pub shown : History → List ℕ
shown history = image history.found history.changes

-- the history with these changes after the others, the newest first
abbrev pub after : History → List Change → History
after history more = record { found = history.found; changes = more ++ history.changes }

-- All that a crash may leave now has P.
abbrev pub Leaves : (List ℕ → Type 0) → History → Type 0
Leaves P history = (crash : List ℕ) → MayLeave history.found history.changes crash → P crash

-- All that a crash may leave has P: before these changes, between any two of them, and after them.
abbrev pub LeavesThroughout : (List ℕ → Type 0) → History → List Change → Type 0
LeavesThroughout P history [] = Leaves P history
LeavesThroughout P history (change ∷ more) = Leaves P (after history (change ∷ more)) × LeavesThroughout P history more

-- From one known history to another, all that a crash may leave at any moment has P.
abbrev pub LeavesOnly : (List ℕ → Type 0) → Option History → Option History → Type 0
LeavesOnly P None new = ⊤
LeavesOnly P (Some old) new = (more : List Change) × (new ≡ Some (after old more)) × LeavesThroughout P old more

-- A known history goes on with these changes, the newest first.
abbrev pub GoesOn : Option History → Option History → List Change → Type 0
GoesOn None new more = ⊤
GoesOn (Some old) new more = new ≡ Some (after old more)

-- Nothing was done to a disk whose history is known, or it was synced: at each moment a crash leaves what it may have left
-- before, or the image.
abbrev pub AtMostSynced : Option History → Option History → Type 0
AtMostSynced None new = ⊤
AtMostSynced (Some old) new = (new ≡ Some old) ⊎ (new ≡ Some (after old (Sync ∷ [])))

-- A disk's known history stays known.
abbrev pub ReportsOn : Option History → Option History → Type 0
ReportsOn None new = ⊤
ReportsOn (Some old) new = IsSome new

-- a write that put all of these bytes
abbrev pub write_of : ℕ → List ℕ → Change
write_of at bytes = Write at (length bytes) bytes

-- A write of so many bytes that failed has done nothing, or has put some bytes at the start of its range. All of the range
-- may be torn.
abbrev pub IsBroken : ℕ → ℕ → List Change → Type 0
IsBroken at size more = (more ≡ []) ⊎ ((bytes : List ℕ) × (length bytes ≤ size) × (more ≡ Write at size bytes ∷ []))

-- A known history goes on with a write that failed.
abbrev pub Breaks : ℕ → ℕ → Option History → Option History → Type 0
Breaks at size old new = (more : List Change) × IsBroken at size more × GoesOn old new more

-- These are the image's bytes from an offset on, where the history is known.
abbrev pub Shows : Option History → ℕ → List ℕ → Type 0
Shows None at bytes = ⊤
Shows (Some history) at bytes = bytes ≡ slice_range (shown history) at (at + length bytes)

-- The image has so many bytes, where the history is known.
abbrev pub HasSize : Option History → ℕ → Type 0
HasSize None size = ⊤
HasSize (Some history) size = size ≡ length (shown history)
