use Rattle.std.proofs.Common.{◌≡◌, ◌++◌, map, take, drop}
use Rattle.bank_accounts.specs.HeldAccounts.{with_balances}
use Rattle.bank_accounts.specs.Sides.{tables_in, with_sides}
use Rattle.bank_accounts.proofs.book_sides.BookSides.set_balances.Given as goal

-- The accounts so far have their balances, at both sides.
abbrev pub invariant-loop-account : goal.invariant-loop-account
invariant-loop-account l = record {
  sides : l.self ≡ with_sides l.given.given l.fn.self (take l.account-index l.fn.held);
  accounts : l.account-items ≡ map (with_balances l.given.given) (take l.account-index l.fn.held) ++ drop l.account-index l.fn.held;
  tables : tables_in l.self ≡ tables_in l.fn.self;
}
