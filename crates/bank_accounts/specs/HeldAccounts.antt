-- Lists of accounts, as they are held while an event is answered.
use Rattle.std.specs.Prelude.{◌≡◌, ◌==◌, List, map, Option, None, Some, All, Contains}
use Rattle.std.specs.List.{find}
use Rattle.std.specs.List.Sorted.{IsStrictlyIncreasing}
use Rattle.std.specs.Option.{option_map, IfSome}
use Rattle.ofx_types.specs.declared.number.AcctId.{AcctId}
use Rattle.ofx_types.specs.declared.number.Cents.{Cents}
use Rattle.bank_accounts.specs.AccountView.{AccountView}
use Rattle.bank_accounts.specs.BalancesView.{amount_given}
use Rattle.bank_accounts.specs.declared.balances.Balance.{Balance}

-- The numbers of the accounts rise.
abbrev pub NumbersRise : List AccountView → Type 0
NumbersRise accounts = IsStrictlyIncreasing (map (λ (account : AccountView). account.number.0) accounts)

-- The balance of the account of that number, where it is held.
abbrev pub balance_held : List AccountView → AcctId → Option Cents
balance_held accounts number =
    option_map (λ (account : AccountView). account.balance) (find (λ (account : AccountView). account.number.0 == number.0) accounts)

-- Among the accounts is the one of that number.
abbrev pub IsHeld : List AccountView → AcctId → Type 0
IsHeld accounts number = Contains (map (λ (account : AccountView). account.number) accounts) number

-- Among the accounts is each one that is named.
abbrev pub AreHeld : List AccountView → List (Option AcctId) → Type 0
AreHeld accounts named = All (λ (entry : Option AcctId). IfSome entry (IsHeld accounts)) named

abbrev pub with_amount : AccountView → Option Cents → AccountView
with_amount account None = account
with_amount account (Some amount) = record { number = account.number; balance = amount; table = account.table }

-- Each of the accounts is one that is named: no other is among them.
abbrev pub AreNamed : List AccountView → List (Option AcctId) → Type 0
AreNamed accounts named =
    All (λ (number : AcctId). Contains named (Some number)) (map (λ (account : AccountView). account.number) accounts)

-- An account with the balance that it came to, where it came to another one.
abbrev pub with_balances : List Balance → AccountView → AccountView
with_balances given account = with_amount account (amount_given given account.number)

-- The accounts have the same numbers in the same order.
abbrev pub HaveSameNumbers : List AccountView → List AccountView → Type 0
HaveSameNumbers xs ys =
    map (λ (account : AccountView). account.number) xs ≡ map (λ (account : AccountView). account.number) ys
