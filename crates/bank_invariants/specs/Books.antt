-- What holds of a bank's books.
use Rattle.std.specs.Prelude.{◌≡◌, ◌≤ℤ◌, pos}
use Rattle.ofx_types.specs.declared.number.AcctId.{AcctId}
use Rattle.bank_model.specs.declared.setup.Setup.{Setup}
use Rattle.bank_model.specs.declared.event.State.{State}
use Rattle.bank_model.specs.SetupForm.{openings}
use Rattle.bank_model.specs.Ledger.{balance}
use Rattle.once_records.specs.RecordsView.{UsedOnce, KeptOnce}
use Rattle.bank_transfers.specs.Together.{balances}

-- No user has used up a uid twice, no file of a user has two kept replies, all balances together are all openings
-- together, and no balance is below zero.
pub record AreBooksRight (setup : Setup) (S : State) : Type 0 where
  pub uids : UsedOnce S.used
  pub files : KeptOnce S.kept
  pub money : balances setup S.entries ≡ openings setup.accounts
  pub covered : (account : AcctId) → pos 0 ≤ℤ balance setup S.entries account
