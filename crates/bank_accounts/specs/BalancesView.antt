-- Balances that accounts come to.
use Rattle.std.specs.Prelude.{ℕ, ◌==◌, List, reverse, Option}
use Rattle.std.specs.List.{find}
use Rattle.std.specs.Option.{option_map}
use Rattle.ofx_types.specs.declared.number.AcctId.{AcctId}
use Rattle.ofx_types.specs.declared.number.Cents.{Cents}
use Rattle.bank_accounts.specs.declared.balances.Balance.{Balance}

-- The balances that accounts came to, one after another, and for how many more there is room.
pub record BalancesView : Type 0 where
  pub given : List Balance
  pub room : ℕ

-- the last of an account
abbrev pub last_given : List Balance → AcctId → Option Balance
last_given given account = find (λ (balance : Balance). account.0 == balance.account.0) (reverse given)

-- The balance that an account came to last, where it came to any.
abbrev pub amount_given : List Balance → AcctId → Option Cents
amount_given given account = option_map (λ (balance : Balance). balance.amount) (last_given given account)
