use Rattle.std.proofs.Common.{◌≡◌, take}
use Rattle.ofx_world.specs.Rehearsal as rules
use Rattle.ofx_world.proofs.rehearsal.summary.stores_lost.Given as goal

-- what those before come to
abbrev pub invariant-loop-customer : goal.invariant-loop-customer
invariant-loop-customer l = l.count ≡ rules.stores_lost (take l.customer-index l.customers)
