use Rattle.std.proofs.Common.{refl, ap, length, arith}
use Rattle.std.specs.List.{IsDistinct}
use Rattle.bank_model.specs.Models.{model_of, is_model_dropped}
use Rattle.bank_recur.specs.Upcoming.{day_in}
use Rattle.bank_recur.proofs.models.Models.new.Goals as goal

pub invariant_of-result : goal.invariant_of-result
unfolding IsDistinct
invariant_of-result c = rw (c.new.ensures.items, c.new-2.ensures.empty) (tt, λ id. refl, record { days = λ id. ap (day_in id) c.new-3.ensures; many = ap length c.new-3.ensures; room = omega arith })

pub returns : goal.returns
unfolding model_of is_model_dropped
returns c = rw c.new.ensures.items (record { rows = λ id. refl; dropped = λ id. refl; occurrences = λ id there. cc; order = refl })
