use Rattle.std.proofs.Common.{◌≡◌, map, Some}
use Rattle.bank_accounts.proofs.row.slots_of.Given as goal

abbrev pub invariant-loop-account : goal.invariant-loop-account
invariant-loop-account l = l.slots.items ≡ map Some l.yielded
