use Rattle.std.specs.List.{IsDistinct}
use Rattle.once_records.proofs.used.Used.new.Goals as goal

pub invariant_of-result : goal.invariant_of-result
unfolding IsDistinct
invariant_of-result c = rw c.with_hasher.ensures.empty (record { below = tt; numbers = tt; used = tt })
