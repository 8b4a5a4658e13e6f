use Rattle.std.proofs.Common.{◌≡◌, take}
use Rattle.ofx_world.specs.Rehearsal as rules
use Rattle.ofx_world.proofs.rehearsal.summary.files_made.Given as goal

-- what those before come to
abbrev pub invariant-loop-customer : goal.invariant-loop-customer
invariant-loop-customer l = l.count ≡ rules.files_made (take l.customer-index l.customers)
