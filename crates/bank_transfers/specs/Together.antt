-- All the accounts of a setup together.
use Rattle.std.specs.Prelude.{ℕ, ℤ, pos, ◌+ℤ◌, List, map, fold, length, IsSome}
use Rattle.std.specs.List.{range_with_len}
use Rattle.ofx_types.specs.declared.number.AcctId.{AcctId}
use Rattle.bank_model.specs.declared.entry.Entry.{Entry}
use Rattle.bank_model.specs.declared.setup.Setup.{Setup}
use Rattle.bank_model.specs.SetupLookups.{account_of}
use Rattle.bank_model.specs.Ledger.{Posting, balance}

-- the accounts of a setup, numbered from 0
abbrev pub accounts_of : Setup → List AcctId
accounts_of setup = map (λ (index : ℕ). record { 0 = index }) (range_with_len 0 (length setup.accounts))

-- the balances of all accounts together
abbrev pub balances : Setup → List Entry → ℤ
balances setup entries = fold (λ (sum : ℤ) (account : AcctId). sum +ℤ balance setup entries account) (pos 0) (accounts_of setup)

-- A posted transfer stays inside the bank: its source and its destination are accounts of the setup.
abbrev pub IsInside : Setup → Posting → Type 0
IsInside setup posting = IsSome (account_of setup posting.row.from) × IsSome (account_of setup posting.row.to)
