-- The next transfers of recurring transfers, in the order in which they are made.
use Rattle.std.specs.Prelude.{◌≡◌, ℕ, ◌≤◌, true, false, ◌==◌, List, length, Option, None, Some}
use Rattle.std.specs.Option.{option_map}
use Rattle.std.specs.List.{find}
use Rattle.std.specs.List.Sorted.{IsPartitionPoint}
use Rattle.ofx_types.specs.declared.number.Day.{Day}
use Rattle.bank_recur.specs.InOrder.{AllInOrder}
use Rattle.bank_recur.specs.Spawning.{is_before_spawn}
use Rattle.bank_recur.specs.declared.spawn.Spawn.{Spawn}

-- The next transfers, and for how many there is room.
pub record UpcomingView : Type 0 where
  pub spawns : List Spawn
  pub room : ℕ

-- The first comes before the other, and they aren't of one recurring transfer.
pub record Precedes (first other : Spawn) : Type 0 where
  pub before : is_before_spawn first other ≡ true
  pub apart : (first.id == other.id) ≡ false

-- Each precedes all after it, so there is at most one of each recurring transfer.
abbrev pub IsInOrder : List Spawn → Type 0
IsInOrder spawns = AllInOrder Precedes spawns

-- the day of the next transfer of the recurring transfer with this id, where there is one
abbrev pub day_in : ℕ → List Spawn → Option Day
day_in id spawns = option_map (λ (spawn : Spawn). spawn.day) (find (λ (spawn : Spawn). spawn.id == id) spawns)

abbrev pub days_of : Option Day → ℕ
days_of None = 0
days_of (Some day) = 1

-- Those before the index come before the transfer, and those from it on don't.
pub record IsIndex (next : Spawn) (spawns : List Spawn) (at : ℕ) : Type 0 where
  pub within : at ≤ length spawns
  pub parts : IsPartitionPoint (λ (spawn : Spawn). is_before_spawn spawn next ≡ true) (λ (spawn : Spawn). is_before_spawn spawn next ≡ false) spawns at

-- It is one of the next transfers, and none of them comes before it; there is no first one where there are none.
abbrev pub IsFirst : Option Spawn → List Spawn → Type 0
IsFirst None spawns = (id : ℕ) → day_in id spawns ≡ None
IsFirst (Some first) spawns = (day_in first.id spawns ≡ Some first.day)
    × ((id : ℕ) (day : Day) → day_in id spawns ≡ Some day → is_before_spawn (record { day = day; id = id }) first ≡ false)
