-- The rule of a board: how its words and all views of it hang together, at each moment.
--
-- Word 0 counts the endings of the log, and after it comes a word for each object.
use Rattle.std.specs.Prelude.{◌≡◌, ℕ, ◌+◌, ◌<◌, ◌≤◌, ◌%◌, ◌^◌, true, List, [], ◌∷◌, length, max, fold, slice_index, All}
use mathlib.Core.Option.{some}
use lib.ListN.{get_elem?}
use Rattle.atomic_table.specs.Table.{State}
use Rattle.ofx_types.specs.declared.number.ObjectId.{ObjectId}
use Rattle.bank_model.specs.declared.entry.Entry.{Entry}
use Rattle.bank_model.specs.declared.log.LogItem.{LogItem}
use Rattle.bank_model.specs.Log.{endings}
use Rattle.token_board.specs.declared.view.Load.{Load}
use Rattle.token_board.specs.declared.view.View.{View}
use Rattle.token_board.specs.Tokens.{Begins, added, newest_in, IsTokenIn}

-- the greatest of these numbers, 0 where there are none
abbrev pub greatest : List ℕ → ℕ
greatest numbers = fold max 0 numbers

-- The numbers of entries rise, from above a number.
abbrev pub RiseFrom : ℕ → List Entry → Type 0
RiseFrom number [] = Unit {0}
RiseFrom number (entry ∷ more) = (number < entry.number) × RiseFrom entry.number more

-- What the words say of the log. Word 0 is the number of its endings modulo 2^64, and an object's word is its newest token.
pub record AreWords (start : List ℕ) (log : List LogItem) (words : List ℕ) : Type 0 where
  pub size : length words ≡ length start + 1
  pub counted : slice_index words 0 ≡ length (endings log) % 2 ^ 64
  pub newest : (object : ObjectId) → object.0 < length start → slice_index words (object.0 + 1) ≡ newest_in start log object

-- The entries of the log's effects belong to objects of the board, and all numbers rise.
pub record IsOrdered (start : List ℕ) (log : List LogItem) : Type 0 where
  pub rises : RiseFrom (greatest start) (added log)
  pub objects : All (λ (entry : Entry). entry.object.0 < length start) (added log)

-- What a seat's view says of the log:
-- - the writer alone writes, and it has seen all of the log;
-- - what was seen or heard begins the log;
-- - what the seat owns are endings of the log, of which it is the one owner;
-- - each token of at least 1 is the number of an entry of its object.
-- A view that was joined to another one is empty, so all of this holds of it.
pub record IsRight (start : List ℕ) (log : List LogItem) (writer : ℕ) (owner : ℕ → ℕ) (seat : ℕ) (view : View) : Type 0 where
  pub writes : view.writes ≡ true → (seat ≡ writer) × (view.seen ≡ log)
  pub seen : Begins view.seen log
  pub heard : Begins view.heard log
  pub owned : All (λ number. (owner number ≡ seat) × (number ≤ length (endings log))) view.owned
  pub tokens : All (IsTokenIn start log) view.tokens

-- There is one log, which the words and all views speak of. It has one writer, and each ending has at most one owner.
pub record IsRuled (start : List ℕ) (words : List ℕ) (views : List View) : Type 0 where
  pub log : List LogItem
  pub writer : ℕ
  pub owner : ℕ → ℕ
  pub counts : AreWords start log words
  pub ordered : IsOrdered start log
  pub right : (seat : ℕ) (view : View) → get_elem? views seat ≡ some view → IsRight start log writer owner seat view

abbrev pub Ruled : List ℕ → State (Unit {0}) View → Type 0
Ruled start state = IsRuled start state.words state.views
