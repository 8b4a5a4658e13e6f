-- The accounts with which a bank opens.
use Rattle.std.specs.Prelude.{◌≡◌, ℕ, ◌<◌, List, length, slice_index_or}
use Rattle.bank_model.specs.declared.setup.Setup.{Setup}
use Rattle.bank_model.specs.Rules.{opening_state}
use Rattle.bank_accounts.specs.AccountView.{AccountView}
use Rattle.bank_ledger.specs.Balanced.{AreBalanced}

-- There is one account for each account line. They are numbered from 0 in their order, and each has its balance of
-- the opening state.
pub record AreOpened (setup : Setup) (accounts : List AccountView) : Type 0 where
  pub count : length accounts ≡ length setup.accounts
  pub numbered : (k : ℕ) (d : AccountView) → k < length accounts → (slice_index_or accounts k d).number.0 ≡ k
  pub balanced : AreBalanced setup opening_state accounts
