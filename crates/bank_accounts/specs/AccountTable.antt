-- An account's table: its word, what its seats know, and the rule that ties them.
use Rattle.std.specs.Prelude.{◌≡◌, ℕ, List, [], length, slice_index, Option, Some, None}
use mathlib.Core.Option.{some}
use lib.ListN.{get_elem?}
use Rattle.atomic_table.specs.Seated.{TableId}
use Rattle.atomic_table.specs.Table.{State, Me}
use Rattle.atomic_table.specs.declared.shared.Seat.{Seat}
use Rattle.bank_accounts.specs.declared.side_rule.Sides.{Sides}

abbrev pub both_sides : ℕ → ℕ → Sides
both_sides book account = record { book = Some book; account = Some account }

abbrev pub book_side : ℕ → Sides
book_side amount = record { book = Some amount; account = None }

abbrev pub account_side : ℕ → Sides
account_side amount = record { book = None; account = Some amount }

-- What a seat knows whose side was taken.
abbrev pub no_side : Sides
no_side = record { book = None; account = None }

abbrev pub book_part : Sides → Sides
book_part v = record { book = v.book; account = None }

abbrev pub account_part : Sides → Sides
account_part v = record { book = None; account = v.account }

-- The book's side of the one and the account's of the other.
abbrev pub joined : Sides → Sides → Sides
joined v w = record { book = v.book; account = w.account }

-- A side that the seat has is the word, and no other seat has it.
abbrev pub IsOnlySide : ℕ → ℕ → ℕ → Option ℕ → Type 0
IsOnlySide word owner seat None = Unit {0}
IsOnlySide word owner seat (Some amount) = (seat ≡ owner) × (amount ≡ word)

abbrev pub AreOnlySides : ℕ → ℕ → ℕ → ℕ → Sides → Type 0
AreOnlySides word book_seat account_seat seat v = IsOnlySide word book_seat seat v.book × IsOnlySide word account_seat seat v.account

-- Every amount that a seat knows is the word. One seat at most has the book's side, and one the account's.
pub record HaveOneAmount {S : Type 0} (s : State S Sides) : Type 0 where
  pub one_word : length s.words ≡ 1
  pub book_seat : ℕ
  pub account_seat : ℕ
  pub each : (seat : ℕ) (v : Sides) → get_elem? s.views seat ≡ some v → AreOnlySides (slice_index s.words 0) book_seat account_seat seat v

module _ {S : Type 0} where
  -- The word was loaded by the seat that has both sides: both amounts are the word, and it knows what it knew.
  abbrev pub Agreed : Me S Sides → ℕ → Me S Sides → Type 0
  Agreed before word after = (before.0 ≡ both_sides word word) × (after ≡ before)

  -- A word was stored by the seat that has both sides: it is the amount of both.
  abbrev pub Given : Me S Sides → ℕ → Me S Sides → Type 0
  Given before word after = after ≡ (both_sides word word, before.1)

abbrev pub amount_in : Option ℕ → ℕ
amount_in (Some amount) = amount
amount_in None = 0

module _ {S : Type 0} where
  -- The seat has the book's side alone.
  abbrev pub HasBookSide : Me S Sides → Type 0
  HasBookSide me = me ≡ (book_side (amount_in me.0.book), [])

  -- The seat has the account's side alone.
  abbrev pub HasAccountSide : Me S Sides → Type 0
  HasAccountSide me = me ≡ (account_side (amount_in me.0.account), [])

-- The seats are at the table, which has one word, and have the two sides of its account.
pub record AreSides {S : Type 0} (table : TableId) (book account : Seat S Sides) : Type 0 where
  pub one_word : table.words ≡ 1
  pub book_there : book.table_id ≡ table
  pub account_there : account.table_id ≡ table
  pub of_book : HasBookSide book.me
  pub of_account : HasAccountSide account.me
