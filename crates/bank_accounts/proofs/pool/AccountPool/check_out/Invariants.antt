use Rattle.bank_accounts.proofs.HomeLemmas.{HasCheckedOut}
use Rattle.bank_accounts.proofs.pool.AccountPool.check_out.Given as goal

-- The accounts of the numbers so far are checked out.
abbrev pub invariant-loop-number : goal.invariant-loop-number
invariant-loop-number l = HasCheckedOut l.fn.self l.self l.fn.held l.held l.fn.numbers l.number-index
