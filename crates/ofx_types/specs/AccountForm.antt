-- Accounts: the words of their kinds, and when two names are one account's.
use Rattle.std.specs.Prelude.{ℕ, List, codes, Bool, ◌&&◌}
use Rattle.std.specs.Str.{bytes_eq}
use Rattle.ofx_types.specs.declared.account.AcctKind.{AcctKind}
use Rattle.ofx_types.specs.declared.account.AcctKind.TheVariants.{Checking, Savings, MoneyMarket, CreditLine}
use Rattle.ofx_types.specs.declared.account.AcctName.{AcctName}

-- the words of ACCTTYPE
abbrev pub kind_word : AcctKind → List ℕ
kind_word Checking = codes "CHECKING"
kind_word Savings = codes "SAVINGS"
kind_word MoneyMarket = codes "MONEYMRKT"
kind_word CreditLine = codes "CREDITLINE"

-- the offset of a kind among the kinds
abbrev pub kind_number : AcctKind → ℕ
kind_number Checking = 0
kind_number Savings = 1
kind_number MoneyMarket = 2
kind_number CreditLine = 3

-- An account is named by its bank, its number and its kind together.
abbrev pub same_account : AcctName → AcctName → Bool
same_account a b = bytes_eq a.bank b.bank && bytes_eq a.number b.number && bytes_eq (kind_word a.kind) (kind_word b.kind)
