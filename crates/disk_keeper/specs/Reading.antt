-- What is found in reading a file of records.
use Rattle.std.specs.Prelude.{◌≡◌, ◌≢◌, ℕ, ◌+◌, ◌<◌, ◌≤◌, ◌^◌, ◌-◌, List, [], ◌∷◌, ◌++◌, length, take, drop, slice_index, Bool, true, false, Option, None, Some, Err}
use Rattle.disk_keeper.specs.File.{size_bytes, next_size, is_whole, has_mark, found_in}
use Rattle.disk_keeper.specs.Layout.{prefix, HaveSizes, IsFile}
use Rattle.disk_keeper.specs.declared.reading.Gate.{Gate}
use Rattle.disk_keeper.specs.declared.reading.Found.{Found}
use Rattle.disk_keeper.specs.declared.reading.Found.TheVariants.{End, NoMark, Past}
use Rattle.disk_keeper.specs.declared.reading.ScanStep.{ScanStep}
use Rattle.disk_keeper.specs.declared.reading.ScanStep.TheVariants.{Next, Last, Cut}

-- The length of the record after a gate, where the record is whole.
abbrev pub IsSize : List ℕ → Option ℕ → Type 0
IsSize suffix (Some size) = (is_whole suffix ≡ true) × (next_size suffix ≡ size) × (size_bytes size ≡ take 8 suffix) × (size < 2 ^ 64)
IsSize suffix None = is_whole suffix ≡ false

-- The bytes of the record after a gate.
abbrev pub IsRecord : List ℕ → List ℕ → Type 0
IsRecord suffix bytes = bytes ≡ take (next_size suffix) (drop 8 suffix)

-- All records before a gate were read.
pub record Walked (gate : Gate) (file : List ℕ) : Type 0 where
  pub records : List (List ℕ)
  pub bytes : file ≡ prefix records ++ drop gate.offset file
  pub offset_is : gate.offset ≡ length (prefix records)
  pub count : gate.records ≡ length records
  pub sizes : HaveSizes records

-- What is at a gate: an open one with a whole record, and the next gate; one that isn't open; or one that is open with
-- a record that passes the end.
abbrev pub IsStep : Gate → List ℕ → ScanStep → Type 0
IsStep gate file (Next next) =
    (slice_index file gate.offset ≡ 1) × (next.records ≡ gate.records + 1) × (gate.offset + 9 ≤ next.offset)
    × IsSize (drop (gate.offset + 1) file) (Some (next.offset - gate.offset - 9))
IsStep gate file Last = slice_index file gate.offset ≢ 1
IsStep gate file Cut = (slice_index file gate.offset ≡ 1) × IsSize (drop (gate.offset + 1) file) None

-- What a file was found to be: one of so many records, one without the mark, or one in which the record or gate of this
-- number is the first that passes the end.
abbrev pub IsFound : List ℕ → Found → Type 0
IsFound file (End gate) = (records : List (List ℕ)) × IsFile records gate.offset file × (gate.records ≡ length records)
IsFound file NoMark = has_mark file ≡ false
IsFound file (Past number) = (has_mark file ≡ true) × (found_in file ≡ Err number)
