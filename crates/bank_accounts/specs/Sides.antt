-- The two sides of accounts: which bank an account is of, and that the book's side has the account's balance.
use Rattle.std.specs.Prelude.{◌≡◌, List, map, fold, set, slice_get, Option, None, Some, All, pos, ◌≤ℤ◌}
use Rattle.std.specs.Option.{IfSome}
use Rattle.ofx_types.specs.declared.number.AcctId.{AcctId}
use Rattle.ofx_types.specs.declared.number.Cents.{Cents}
use Rattle.bank_accounts.specs.AccountView.{AccountView, BookSideView, Tables}
use Rattle.bank_accounts.specs.BalancesView.{amount_given}
use Rattle.bank_accounts.specs.declared.balances.Balance.{Balance}

abbrev pub tables_of : List AccountView → Tables
tables_of accounts = map (λ (account : AccountView). account.table) accounts

abbrev pub tables_in : List BookSideView → Tables
tables_in sides = map (λ (side : BookSideView). side.table) sides

-- An account is of the bank whose accounts have these tables, by number: the book has the other side of it.
abbrev pub IsOf : Tables → AccountView → Type 0
IsOf tables account = slice_get tables account.number.0 ≡ Some account.table

-- Each of the accounts is of that bank.
abbrev pub AreOf : Tables → List AccountView → Type 0
AreOf tables accounts = All (IsOf tables) accounts

-- what the book's side of an account is where both have one balance
abbrev pub side_of : AccountView → BookSideView
side_of account = record { balance = account.balance; table = account.table }

-- The book's side of each of the accounts has the account's balance.
abbrev pub AreMet : List BookSideView → List AccountView → Type 0
AreMet sides accounts =
    All (λ (account : AccountView). slice_get sides account.number.0 ≡ Some (side_of account)) accounts

-- The book's sides, with another balance at one account.
abbrev pub with_side : List BookSideView → AccountView → Option Cents → List BookSideView
with_side sides account None = sides
with_side sides account (Some amount) = set sides account.number.0 (record { balance = amount; table = account.table })

-- The book's sides, with the balance that each of these accounts came to, where it came to another one. All others stay.
abbrev pub with_sides : List Balance → List BookSideView → List AccountView → List BookSideView
with_sides given sides accounts =
    fold (λ (so_far : List BookSideView) (account : AccountView). with_side so_far account (amount_given given account.number)) sides accounts

-- No account came to a balance below zero.
abbrev pub AreNotNegative : List Balance → Type 0
AreNotNegative given = (account : AcctId) → IfSome (amount_given given account) (λ (amount : Cents). pos 0 ≤ℤ amount.0)
