use Rattle.std.proofs.Common.{◌≡◌, ℕ, ◌<◌, get_or, Some}
use Rattle.std.specs.Prelude.{slice_get}
use Rattle.bank_accounts.specs.AccountView.{AccountView}
use Rattle.bank_accounts.specs.Sides.{side_of}
use Rattle.bank_accounts.proofs.book_sides.BookSides.meet.Given as goal

-- Nothing changes, and the accounts so far are met.
abbrev pub invariant-loop-account : goal.invariant-loop-account
invariant-loop-account l = record {
  sides : l.self ≡ l.fn.self;
  accounts : l.account-items ≡ l.fn.held;
  met : (k : ℕ) (d : AccountView) → k < l.account-index → slice_get l.fn.self (get_or l.fn.held k d).number.0 ≡ Some (side_of (get_or l.fn.held k d));
}
