use Rattle.std.proofs.Common.{◌<◌, length}
use Rattle.std.specs.List.{All}
use Rattle.bank_accounts.specs.AccountView.{AccountView, Tables}
use Rattle.bank_accounts.specs.Pool.{AreCheckedOut}
use Rattle.bank_accounts.proofs.pool.AccountPool.check_in.Given as goal

-- What is left of those that were held is still checked out.
abbrev pub invariant-loop-account : goal.invariant-loop-account
invariant-loop-account l = record {
  known : All (λ (account : AccountView). account.number.0 < length l.self) l.held;
  checked_out : (tables : Tables) → AreCheckedOut tables l.fn.self l.fn.held → AreCheckedOut tables l.self l.held;
}

abbrev pub decreases-loop-account : goal.decreases-loop-account
decreases-loop-account l = length l.held
