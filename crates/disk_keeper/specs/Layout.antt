-- The bytes of a file of records.
use Rattle.std.specs.Prelude.{◌≡◌, ◌≢◌, ◌⊎◌, ℕ, ◌+◌, ◌<◌, ◌^◌, List, [], ◌∷◌, ◌++◌, length}
use Rattle.disk_keeper.specs.File.{mark, size_bytes}

-- a record in the file, with its gate and its length
abbrev pub block : List ℕ → List ℕ
block record_bytes = 1 ∷ size_bytes (length record_bytes) ++ record_bytes

abbrev pub blocks : List (List ℕ) → List ℕ
blocks [] = []
blocks (r ∷ rs) = block r ++ blocks rs

-- the bytes before the last gate
abbrev pub prefix : List (List ℕ) → List ℕ
prefix records = mark ++ blocks records

-- the lengths of all of them fit into eight bytes
abbrev pub HaveSizes : List (List ℕ) → Type 0
HaveSizes [] = Unit {0}
HaveSizes (r ∷ rs) = (length r < 2 ^ 64) × HaveSizes rs

-- The file has these records, with its last gate at this offset.
pub record IsFile (records : List (List ℕ)) (offset : ℕ) (file : List ℕ) : Type 0 where
  pub gate : ℕ
  pub suffix : List ℕ
  pub shut : gate ≢ 1
  pub bytes : file ≡ prefix records ++ gate ∷ suffix
  pub offset_is : offset ≡ length (prefix records)
  pub sizes : HaveSizes records

-- The file has these records, or one more.
abbrev pub MayHave : List (List ℕ) → List ℕ → ℕ → ℕ → List ℕ → Type 0
MayHave records begun offset next file = IsFile records offset file ⊎ IsFile (records ++ begun ∷ []) next file
