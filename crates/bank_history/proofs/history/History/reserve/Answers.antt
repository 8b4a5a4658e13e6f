use Rattle.std.proofs.Common.{◌∙◌, ap, arith}
use Rattle.bank_history.specs.HistoryHeld.{number_or_none}
use Rattle.bank_history.proofs.history.History.reserve.Goals as goal

pub invariant_of-self-then-self-entries : goal.invariant_of-self-then-self-entries
invariant_of-self-then-self-entries c =
    let i = c.self.invariant in
    rw c.reserve.ensures.items (
      i.0,
      (λ object. ap number_or_none (c.reserve-2.ensures.entries.2 object.0) ∙ i.1 object),
      i.2,
      c.lay.ensures.laid,
      omega (arith, c.in_ok-reserve.ensures.ok),
      omega (arith, c.in_ok-reserve-2.ensures.ok),
    )

pub invariant_of-self-else-self-entries : goal.invariant_of-self-else-self-entries
invariant_of-self-else-self-entries c =
    let i = c.self.invariant in
    rw c.reserve.ensures.items (
      i.0,
      (λ object. ap number_or_none (c.reserve-2.ensures.entries.2 object.0) ∙ i.1 object),
      i.2,
      c.lay.ensures.laid,
      omega (arith, i.4, c.lay.ensures.len, c.lay.ensures.capacity, c.reserve.ensures.len, c.reserve.ensures.capacity),
      omega (arith, i.5, c.reserve-2.ensures.spare),
    )
