-- How a bank's history is held: the number of each object's last entry in a table, and the entries themselves in what is held
-- of their objects, but for those that came most recently.
use Rattle.std.specs.Prelude.{◌≡◌, ℕ, ◌+◌, ◌<◌, ◌==◌, List, ◌++◌, length, slice_index_or, Option, None, Some}
use Rattle.std.specs.Map.{lookup}
use Rattle.ofx_types.specs.declared.number.ObjectId.{ObjectId}
use Rattle.bank_model.specs.declared.entry.Entry.{Entry}
use Rattle.bank_model.specs.Objects.{newest}
use Rattle.bank_history.specs.ObjectHistory.{LaidView, LaidFor}

-- Entries are numbered from 1 without gaps, so that an entry's number is its position, from 1.
abbrev pub AreNumbered : List Entry → Type 0
AreNumbered entries = (k : ℕ) (d : Entry) → k < length entries → (slice_index_or entries k d).number ≡ k + 1

-- what the table says of an object, 0 where it says nothing
abbrev pub number_or_none : Option ℕ → ℕ
number_or_none None = 0
number_or_none (Some number) = number

-- The table has the number of the last entry of each object.
abbrev pub HasLasts : List (ℕ × ℕ) → List Entry → Type 0
HasLasts table entries = (object : ObjectId) → number_or_none (lookup (λ k. object.0 == k) table) ≡ newest object entries

-- What is laid stands for the first entries, and the others are the recent ones.
pub record IsLaidBefore (laid : LaidView) (recent entries : List Entry) : Type 0 where
  pub prefix : List Entry
  pub holds : LaidFor prefix laid
  pub all : prefix ++ recent ≡ entries
