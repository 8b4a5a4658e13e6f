use Rattle.std.proofs.Common.{◌≡◌, take}
use Rattle.ofx_world.specs.Rehearsal as rules
use Rattle.ofx_world.proofs.rehearsal.summary.sum_of.Given as goal

-- what those before have together
abbrev pub invariant-loop-account : goal.invariant-loop-account
invariant-loop-account l = l.sum ≡ rules.sum_among (take l.account-index l.accounts)
