-- A bank for one caller: its book, and its accounts in the pool or lent.
use Rattle.std.specs.Prelude.{◌≡◌, ℕ, ◌<◌, List, length, slice_index_or}
use Rattle.bank_model.specs.declared.setup.Setup.{Setup}
use Rattle.bank_model.specs.declared.event.State.{State}
use Rattle.bank_accounts.specs.AccountView.{AccountView, Tables}
use Rattle.bank_accounts.specs.Pool.{AreNumbered}
use Rattle.bank_accounts.specs.Sides.{tables_of}
use Rattle.bank_ledger.specs.LedgerView.{Room}
use Rattle.bank_ledger.specs.Balanced.{AreBalanced}

-- The accounts are numbered from 0 in their order, and these are their tables.
pub record AreAccountsOf (tables : Tables) (accounts : List AccountView) : Type 0 where
  pub numbered : AreNumbered accounts
  pub own : tables_of accounts ≡ tables

-- There is one account for each account line. They are numbered from 0 in their order, and each has its balance of the
-- state.
pub record AreAccountsIn (setup : Setup) (state : State) (accounts : List AccountView) : Type 0 where
  pub count : length accounts ≡ length setup.accounts
  pub numbered : (k : ℕ) (d : AccountView) → k < length accounts → (slice_index_or accounts k d).number.0 ≡ k
  pub balanced : AreBalanced setup state accounts

-- What contracts see of such a bank: its setup and its state, the room that is reserved in its book, the table of each account,
-- and the accounts that are checked out for the step of an event.
pub record SoloView : Type 0 where
  pub setup : Setup
  pub state : State
  pub room : Room
  pub tables : Tables
  pub held : List AccountView
