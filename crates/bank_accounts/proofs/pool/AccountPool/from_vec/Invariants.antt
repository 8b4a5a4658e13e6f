use Rattle.std.proofs.Common.{◌≡◌, ◌++◌, Some, map, reverse, length}
use Rattle.bank_accounts.proofs.pool.AccountPool.from_vec.Given as goal

abbrev pub invariant-loop-account : goal.invariant-loop-account
invariant-loop-account l = map Some l.fn.accounts.items ≡ map Some l.accounts.items ++ reverse l.slots.items

abbrev pub decreases-loop-account : goal.decreases-loop-account
decreases-loop-account l = length l.accounts.items
