-- What contracts see of an account and of the book's side of it.
use Rattle.std.specs.Prelude.{◌≡◌, ℕ, ℤ, pos, negsuc, List}
use Rattle.atomic_table.specs.Seated.{TableId}
use Rattle.atomic_table.specs.Table.{Me}
use Rattle.ofx_types.specs.declared.number.AcctId.{AcctId}
use Rattle.ofx_types.specs.declared.number.Cents.{Cents}
use Rattle.bank_accounts.specs.declared.side_rule.Sides.{Sides}
use Rattle.bank_accounts.specs.AccountTable.{HasAccountSide, HasBookSide, amount_in}

-- The number of an account, its balance, and the table that its two sides share.
pub record AccountView : Type 0 where
  pub number : AcctId
  pub balance : Cents
  pub table : TableId

-- The balance that the book has for an account, and the table that the account's two sides share.
pub record BookSideView : Type 0 where
  pub balance : Cents
  pub table : TableId

-- The table of each account of a bank, by the account's number.
abbrev pub Tables : Type 0
Tables = List TableId

abbrev pub cents : ℕ → Cents
cents n = record { 0 = pos n }

-- The seat is at the table, which has one word, and has the account's side with that amount.
pub record IsAccountSide {S : Type 0} (table seat_table : TableId) (me : Me S Sides) (amount : Cents) : Type 0 where
  pub one_word : table.words ≡ 1
  pub there : seat_table ≡ table
  pub side : HasAccountSide me
  pub balance : amount ≡ cents (amount_in me.0.account)
