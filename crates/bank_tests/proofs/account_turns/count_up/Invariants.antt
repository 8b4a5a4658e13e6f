use Rattle.std.proofs.Common.{◌≡◌}
use Rattle.bank_tests.proofs.account_turns.count_up.Given as goal

abbrev pub invariant-loop-cents : goal.invariant-loop-cents
invariant-loop-cents g l = l.book.table ≡ l.fn.book.table
