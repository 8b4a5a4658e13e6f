-- The balances of accounts that are held, against the state of the bank.
use Rattle.std.specs.Prelude.{◌≡◌, List, All}
use Rattle.bank_model.specs.declared.setup.Setup.{Setup}
use Rattle.bank_model.specs.declared.event.State.{State}
use Rattle.bank_model.specs.Ledger.{balance}
use Rattle.bank_accounts.specs.AccountView.{AccountView}

-- Each account has the balance that its number has in the state.
abbrev pub AreBalanced : Setup → State → List AccountView → Type 0
AreBalanced setup state accounts =
    All (λ (account : AccountView). account.balance ≡ record { 0 = balance setup state.entries account.number }) accounts
