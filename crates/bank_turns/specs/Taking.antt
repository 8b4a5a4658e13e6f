-- Which accounts are taken together, and the turns of those that are out.
use Rattle.std.specs.Prelude.{◌<◌, List, map, length, Option, All, Contains}
use Rattle.std.specs.List.Sorted.{IsStrictlyIncreasing}
use Rattle.std.specs.Option.{IfSome}
use Rattle.atomic_table.specs.Seated.{TableId}
use Rattle.ofx_types.specs.declared.number.AcctId.{AcctId}
use Rattle.bank_accounts.specs.AccountView.{AccountView, Tables}
use Rattle.bank_accounts.specs.Row.{TurnView}

-- The numbers rise, and each is that of an account of the row: whoever takes accounts in this order waits for nobody who waits for
-- them.
pub record MayBeTaken (tables : Tables) (numbers : List AcctId) : Type 0 where
  pub rising : IsStrictlyIncreasing (map (λ (number : AcctId). number.0) numbers)
  pub known : All (λ (number : AcctId). number.0 < length tables) numbers

abbrev pub turn_of : TableId → AccountView → TurnView
turn_of row account = record { row = row; number = account.number }

-- the turns of these accounts, in their order
abbrev pub turns_of : TableId → List AccountView → List TurnView
turns_of row accounts = map (turn_of row) accounts

-- Among the numbers is that of each account that is named.
abbrev pub AreListed : List AcctId → List (Option AcctId) → Type 0
AreListed numbers named = All (λ (entry : Option AcctId). IfSome entry (Contains numbers)) named
