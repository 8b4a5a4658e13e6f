-- What a disk in memory holds, what comes of its calls, and what a crash leaves of it.
use Rattle.std.specs.Prelude.{◌≡◌, ◌⊎◌, ℕ, ◌+◌, ◌-◌, ◌/◌, ◌%◌, ◌<◌, ◌==◌, Bool, true, false, nat_lt, if◌then◌else◌, List, [], ◌∷◌, length, take, replicate, Option, Some, Result, Ok, Err}
use Rattle.std.specs.List.{list_any}
use Rattle.ofx_ports.specs.Calls.{Calls, one_more, fails_next, after_call}
use Rattle.ofx_ports.specs.declared.fault.Failed.{Failed}
use Rattle.disk_keeper.specs.Disk.{History, image, overlaid}
use Rattle.disk_keeper.specs.declared.change.Change.{Change}
use Rattle.disk_keeper.specs.declared.change.Change.TheVariants.{Write, Sync}

pub record MemState : Type 0 where
  -- its bytes at the start
  pub found : List ℕ
  -- what was done to it, the newest first
  pub changes : List Change
  -- the greatest number of bytes that it can hold
  pub room : ℕ
  -- the numbers of the failing writes that put all of their bytes
  pub landing : List ℕ
  pub calls : Calls
  -- how many of its calls failed for want of memory
  pub memory_faults : ℕ

-- it reports all that it holds
abbrev pub reported_by : MemState → Option History
reported_by disk = Some (record { found = disk.found; changes = disk.changes })

-- whether the bytes of the next call are put where that call is a write that fails
abbrev pub lands_next : MemState → Bool
lands_next disk = list_any (λ number. number == one_more disk.calls.made) disk.landing

-- the disk after one more call, which failed or did not, and after these changes
abbrev pub tried : MemState → Bool → List Change → MemState
tried disk failed changes = record {
  found = disk.found;
  changes = changes;
  room = disk.room;
  landing = disk.landing;
  calls = after_call disk.calls failed;
  memory_faults = disk.memory_faults;
}

-- the disk after one more call for which there was no memory: nothing is done
abbrev pub starved : MemState → MemState
starved disk = record {
  found = disk.found;
  changes = disk.changes;
  room = disk.room;
  landing = disk.landing;
  calls = after_call disk.calls true;
  memory_faults = one_more disk.memory_faults;
}

-- A call that would change the disk succeeds, and has changed it, where its number is none of those that fail.
abbrev pub Succeeds : MemState → MemState → Change → Type 0
Succeeds before after change = (fails_next before.calls ≡ false) × (after ≡ tried before false (change ∷ before.changes))

-- It fails, and has done nothing, where its number is one of those that fail; otherwise for want of memory alone.
abbrev pub Syncs : MemState → MemState → Result (Unit {0}) Failed → Type 0
Syncs before after (Ok done) = Succeeds before after Sync
Syncs before after (Err failed) =
    ((fails_next before.calls ≡ true) × (after ≡ tried before true before.changes))
    ⊎ (after ≡ starved before)

-- A write that ends at this offset fails past the room; where its number is one of those that fail, and then it has put its
-- bytes exactly where they land; and otherwise for want of memory alone.
abbrev pub Writes : MemState → MemState → Change → ℕ → Result (Unit {0}) Failed → Type 0
Writes before after write end (Ok done) = Succeeds before after write
Writes before after write end (Err failed) =
    ((before.room < end) × (after ≡ tried before true before.changes))
    ⊎ ((fails_next before.calls ≡ true) × (lands_next before ≡ false) × (after ≡ tried before true before.changes))
    ⊎ ((fails_next before.calls ≡ true) × (lands_next before ≡ true) × (after ≡ tried before true (write ∷ before.changes)))
    ⊎ (after ≡ starved before)

-- What a crash leaves of the bytes of a write, in one of five ways: nothing, all of them, those that fill sectors of 512, the
-- first half, or ones in their place.
abbrev pub torn_bytes : ℕ → List ℕ → List ℕ
torn_bytes way bytes =
    if way == 0 then [] else
    (if way == 1 then bytes else
    (if way == 2 then take (length bytes - length bytes % 512) bytes else
    (if way == 3 then take (length bytes / 2) bytes else
    replicate (length bytes) 1)))

-- What a crash has left, and what is left of the number that chooses it: the digits of the number, in fives and the last one
-- first, are the ways of the writes since the last sync, the oldest first. A write past the end of what was left is lost.
abbrev pub crashed : ℕ → List ℕ → List Change → List ℕ × ℕ
crashed choice found [] = (found, choice)
crashed choice found (Sync ∷ changes) = (image found changes, choice)
crashed choice found (Write at size bytes ∷ changes) =
    let earlier = crashed choice found changes in (
      (if nat_lt (length earlier.0) at then earlier.0 else overlaid earlier.0 at (torn_bytes (earlier.1 % 5) (take size bytes))),
      earlier.1 / 5,
    )
