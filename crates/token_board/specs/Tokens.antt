-- The newest tokens of objects over a log, and the tokens that were newest once.
--
-- A board begins with a list of numbers: that of each object's last entry, at the index of the object, and 0 where it has none.
-- These and the entries of the log's effects are the entries that the board speaks of.
use Rattle.std.specs.Prelude.{◌≡◌, ℕ, ◌<◌, ◌≤◌, List, [], ◌∷◌, ◌++◌, map, length, slice_index_or, All, Contains}
use Rattle.std.specs.List.{flat_map}
use Rattle.ofx_types.specs.declared.number.ObjectId.{ObjectId}
use Rattle.bank_model.specs.declared.entry.Entry.{Entry}
use Rattle.bank_model.specs.declared.log.LogItem.{LogItem}
use Rattle.bank_model.specs.Log.{entry_of, endings}
use Rattle.bank_model.specs.Objects.{history_of, last_number_from}
use Rattle.token_board.specs.declared.view.Load.{Load}

-- A list begins with another one.
abbrev pub Begins : {A : Type 0} → List A → List A → Type 0
Begins {A} prefix all = (rest : List A) × (all ≡ prefix ++ rest)

-- the entries that came with a log
abbrev pub added : List LogItem → List Entry
added log = flat_map entry_of log

abbrev pub number_of : Entry → ℕ
number_of entry = entry.number

-- the number of an object's last entry as the board began
abbrev pub opened : List ℕ → ObjectId → ℕ
opened start object = slice_index_or start object.0 0

-- the numbers of all entries
abbrev pub numbers_in : List ℕ → List LogItem → List ℕ
numbers_in start log = start ++ map number_of (added log)

-- the numbers of an object's entries
abbrev pub numbers_of : List ℕ → List LogItem → ObjectId → List ℕ
numbers_of start log object = opened start object ∷ map number_of (history_of object (added log))

-- An object's newest token is the number of its last entry.
abbrev pub newest_in : List ℕ → List LogItem → ObjectId → ℕ
newest_in start log object = last_number_from (opened start object) (history_of object (added log))

-- A token of at least 1 is the number of an entry of its object.
abbrev pub IsTokenIn : List ℕ → List LogItem → Load → Type 0
IsTokenIn start log load = 1 ≤ load.token → Contains (numbers_of start log load.object) load.token

-- A token is no older than the newest one of its object.
abbrev pub IsFreshIn : List ℕ → List LogItem → Load → Type 0
IsFreshIn start log load = newest_in start log load.object ≤ load.token

-- ---- endings

-- numbers that rise
abbrev pub Rises : List ℕ → Type 0
Rises [] = Unit {0}
Rises (n ∷ ns) = All (λ later. n < later) ns × Rises ns

-- numbers of endings of a log, which rise
pub record AreEndings (log : List LogItem) (numbers : List ℕ) : Type 0 where
  pub rises : Rises numbers
  pub within : All (λ number. (1 ≤ number) × (number ≤ length (endings log))) numbers

-- Each of these numbers is above all of those.
abbrev pub AreAbove : List ℕ → List ℕ → Type 0
AreAbove later earlier = All (λ n. All (λ m. m < n) earlier) later
