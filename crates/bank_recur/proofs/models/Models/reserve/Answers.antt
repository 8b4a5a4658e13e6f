use Rattle.std.proofs.Common.{arith, ◌∙◌}
use Rattle.bank_recur.proofs.AheadLemmas.{none_more, ahead_reserved}
use Rattle.bank_recur.proofs.models.Models.reserve.Goals as goal

pub overflow_sub-ahead : goal.overflow_sub-ahead
overflow_sub-ahead c =
    let few = none_more c.self.inside.series.items c.self.inside.upcoming c.self.invariant.2 in
    let long = c.self.inside.series.ok.0 in
    omega (arith, few, long, c.reserve.ensures.len, c.len.ensures, c.len-2.ensures)

pub invariant_of-self-in_err-reserve-3 : goal.invariant_of-self-in_err-reserve-3
invariant_of-self-in_err-reserve-3 c =
    rw c.reserve.ensures.items (
      c.self.invariant.0,
      (λ id. c.reserve-2.ensures.entries.2 id ∙ c.self.invariant.1 id),
      ahead_reserved c.self.inside.series.items c.self.inside.upcoming c.reserve-3.new.self c.reserve-3.ensures.spawns c.reserve-3.ensures.room_stays c.self.invariant.2,
    )

pub invariant_of-self-2 : goal.invariant_of-self-2
invariant_of-self-2 c =
    rw c.reserve.ensures.items (
      c.self.invariant.0,
      (λ id. c.reserve-2.ensures.entries.2 id ∙ c.self.invariant.1 id),
      ahead_reserved c.self.inside.series.items c.self.inside.upcoming c.reserve-3.new.self c.reserve-3.ensures.spawns c.reserve-3.ensures.room_stays c.self.invariant.2,
    )
