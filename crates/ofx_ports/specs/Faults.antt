-- Counts of the faults of the outside.
use Rattle.std.specs.Prelude.{◌≡◌, ℕ, ◌-◌, ◌^◌, ◌<◌, ◌≤◌, ◌⊎◌}

-- A count rose in a call where it is greater at the end than at the start. A count that has reached the end of its type
-- stays the same, and rises in each call.
abbrev pub Rose : ℕ → ℕ → Type 0
Rose before now = (before < now) ⊎ (now ≡ 2 ^ 64 - 1)

-- A count of faults never falls in a call, and the call fails only where the count rose.
pub record CountsFaults (before now : ℕ) (failed : Type 0) : Type 0 where
  pub later : before ≤ now
  pub cause : failed → Rose before now
