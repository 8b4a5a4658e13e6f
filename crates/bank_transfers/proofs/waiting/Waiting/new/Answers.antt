use Rattle.std.proofs.Common.{arith}
use Rattle.bank_transfers.proofs.ListedLemmas.{listed_none}
use Rattle.bank_transfers.proofs.waiting.Waiting.new.Goals as goal

pub invariant_of-result : goal.invariant_of-result
invariant_of-result c = (
  listed_none c.new.result.entries c.new-2.result.items c.new-3.result.items c.new.ensures.empty c.new-2.ensures.items c.new-3.ensures.items,
  omega arith,
  omega (arith, c.new-2.ensures.len),
  omega (arith, c.new-3.ensures.len),
)
