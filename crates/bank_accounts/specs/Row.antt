-- The row of turns: where each account is, and what contracts see of the row and of a turn.
use Rattle.std.specs.Prelude.{◌≡◌, ℕ, ◌<◌, ◌⊎◌, List, [], ◌∷◌, length, slice_index, Option, Some}
use mathlib.Core.Option as maybe
use mathlib.Core.Option.{some, none}
use lib.ListN.{get_elem?}
use Rattle.atomic_table.specs.Seated.{TableId}
use Rattle.atomic_table.specs.Table.{State, Me}
use Rattle.ofx_types.specs.declared.number.AcctId.{AcctId}
use Rattle.bank_accounts.specs.AccountView.{AccountView, Tables}
use Rattle.bank_accounts.specs.Sides.{IsOf}

-- Which row it is, and the table of each account, by the account's number.
pub record RowView : Type 0 where
  pub row : TableId
  pub tables : Tables

-- The row that lent an account, and the number of the account.
pub record TurnView : Type 0 where
  pub row : TableId
  pub number : AcctId

-- The row's table has a word and a slot for each account.
pub record IsRow (table : TableId) (tables : Tables) : Type 0 where
  pub word_count : table.words ≡ length tables
  pub slot_count : table.slots ≡ length tables

-- The word is 0, and the slot has the row's account of that number.
abbrev pub IsHome : Tables → ℕ → ℕ → maybe.Option (Option AccountView) → Type 0
IsHome tables number word slot =
    (word ≡ 0) × ((account : AccountView) × (slot ≡ some (Some account)) × (account.number.0 ≡ number) × IsOf tables account)

-- The word is 1, and whoever has the turn has the slot.
abbrev pub IsOut : ℕ → maybe.Option (Option AccountView) → Type 0
IsOut word slot = (word ≡ 1) × (slot ≡ none)

abbrev pub IsHomeOrOut : Tables → ℕ → ℕ → maybe.Option (maybe.Option (Option AccountView)) → Type 0
IsHomeOrOut tables number word place =
    (slot : maybe.Option (Option AccountView)) × (place ≡ some slot) × (IsHome tables number word slot ⊎ IsOut word slot)

-- Each account has a word and a slot, and is home or out.
pub record AreHomeOrOut {V : Type 0} (tables : Tables) (s : State (Option AccountView) V) : Type 0 where
  pub word_count : length s.words ≡ length tables
  pub slot_count : length s.homes ≡ length tables
  pub each : (number : ℕ) → number < length tables → IsHomeOrOut tables number (slice_index s.words number) (get_elem? s.homes number)

module _ {V : Type 0} where
  -- The seat has taken the slot of that number, with the row's account of that number in it.
  abbrev pub HasTaken : Tables → ℕ → Me (Option AccountView) V → Type 0
  HasTaken tables number me =
      (account : AccountView) × (me.1 ≡ (number, Some account) ∷ []) × (account.number.0 ≡ number) × IsOf tables account
