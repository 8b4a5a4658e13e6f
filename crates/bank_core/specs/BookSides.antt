-- The book's sides of the accounts, against the state of the bank.
use Rattle.std.specs.Prelude.{◌≡◌, ◌<◌, List, length, slice_index_or}
use Rattle.ofx_types.specs.declared.number.AcctId.{AcctId}
use Rattle.bank_model.specs.declared.setup.Setup.{Setup}
use Rattle.bank_model.specs.declared.event.State.{State}
use Rattle.bank_model.specs.Ledger.{balance}
use Rattle.bank_accounts.specs.AccountView.{BookSideView}

-- The book has a side for each account of the setup, by its number, with the balance that the account has in the state.
pub record AreSidesOf (setup : Setup) (state : State) (sides : List BookSideView) : Type 0 where
  pub count : length sides ≡ length setup.accounts
  pub balanced : (number : AcctId) (d : BookSideView) → number.0 < length sides →
      (slice_index_or sides number.0 d).balance ≡ record { 0 = balance setup state.entries number }
