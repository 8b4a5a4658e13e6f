use Rattle.std.proofs.Common.{◌≡◌, ◌++◌, Some, map, reverse, length}
use Rattle.bank_accounts.proofs.pool.AccountPool.into_vec.Given as goal

abbrev pub invariant-loop-slot : goal.invariant-loop-slot
invariant-loop-slot l = l.fn.self ≡ l.slots.items ++ map Some (reverse l.accounts.items)

abbrev pub decreases-loop-slot : goal.decreases-loop-slot
decreases-loop-slot l = length l.slots.items
