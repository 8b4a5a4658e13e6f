-- Gates between records.
use Rattle.std.specs.Prelude.{◌≡◌, ℕ, List, ◌∷◌, ◌++◌, length}
use Rattle.disk_keeper.specs.Layout.{prefix, HaveSizes}
use Rattle.disk_keeper.specs.declared.reading.Gate.{Gate}

-- A gate is between two of these records, or at an end of them.
pub record Passed (records : List (List ℕ)) (gate : Gate) : Type 0 where
  pub passed : List (List ℕ)
  pub rest : List (List ℕ)
  pub split : records ≡ passed ++ rest
  pub count : gate.records ≡ length passed
  pub offset : gate.offset ≡ length (prefix passed)

-- These records are at the start of a file, and at least one byte comes after them.
pub record Holds (records : List (List ℕ)) (file : List ℕ) : Type 0 where
  pub suffix : List ℕ
  pub some : ℕ
  pub bytes : file ≡ prefix records ++ some ∷ suffix
  pub sizes : HaveSizes records
