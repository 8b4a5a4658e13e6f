-- The file of records: what its bytes stand for.
use Rattle.std.specs.Prelude.{ℕ, zero, suc, ◌+◌, ◌≤◌, List, [], ◌∷◌, ◌++◌, length, take, drop, Bool, ◌==◌, ◌&&◌, nat_le, if◌then◌else◌, Option, None, Some, Result, Ok, Err}
use Rattle.std.specs.Int.{w64, to_be_bytes, from_be_bytes}
use Rattle.std.specs.Str.{bytes_eq}
use Rattle.std.specs.Result.{result_ok}

-- the mark at the start of the file, OFXKEEP1
abbrev pub mark : List ℕ
mark = 79 ∷ 70 ∷ 88 ∷ 75 ∷ 69 ∷ 69 ∷ 80 ∷ 49 ∷ []

-- a length as eight bytes, the most significant first
unfoldable pub size_bytes : ℕ → List ℕ
size_bytes size = to_be_bytes w64 size

-- the length that eight bytes stand for
unfoldable pub size_of : List ℕ → ℕ
size_of bytes = from_be_bytes w64 bytes

-- the length of the record after a gate
abbrev pub next_size : List ℕ → ℕ
next_size suffix = size_of (take 8 suffix)

-- whether the record after a gate is there, with its length
abbrev pub is_whole : List ℕ → Bool
is_whole suffix = nat_le 8 (length suffix) && nat_le (8 + next_size suffix) (length suffix)

-- a record before those that follow it
abbrev pub joined : List ℕ → Result (List (List ℕ)) ℕ → Result (List (List ℕ)) ℕ
joined record_bytes (Ok records) = Ok (record_bytes ∷ records)
joined record_bytes (Err number) = Err number

-- The records from the gate of this number on. After a gate of 1 there is a record, and then the next gate; another gate
-- ends them. Where a gate or its record passes the end, there is its number instead. At most so many gates are looked at.
unfoldable pub records_from : ℕ → ℕ → List ℕ → Result (List (List ℕ)) ℕ
records_from zero number bytes = Err number
records_from (suc most) number [] = Err number
records_from (suc most) number (gate ∷ suffix) =
    if gate == 1 then
    (if is_whole suffix
    then joined (take (next_size suffix) (drop 8 suffix)) (records_from most (number + 1) (drop (8 + next_size suffix) suffix))
    else Err number)
    else Ok []

-- The records after the mark, or the number of the first record or gate that passes the end. There are fewer gates than
-- bytes.
abbrev pub found_in : List ℕ → Result (List (List ℕ)) ℕ
found_in file = records_from (length file) 1 (drop 8 file)

abbrev pub has_mark : List ℕ → Bool
has_mark file = bytes_eq (take 8 file) mark

-- The list of the records. None where the mark is missing, or a record or gate passes the end.
abbrev pub listed : List ℕ → Option (List (List ℕ))
listed file = if has_mark file then result_ok (found_in file) else None
