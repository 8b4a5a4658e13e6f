use Rattle.std.proofs.Common.{ap, ◌∙◌, arith, rules}
use Rattle.bank_transfers.specs.Waiting.{WaitingView}
use Rattle.bank_transfers.specs.TransfersView.{row_at}
use Rattle.bank_transfers.proofs.ListedLemmas.{listed_same}
use Rattle.bank_transfers.proofs.waiting.Waiting.reserve.Goals as goal

pub invariant_of-self-in_err-reserve-2 : goal.invariant_of-self-in_err-reserve-2
invariant_of-self-in_err-reserve-2 c =
    let old = c.self.inside in (
      rw c.reserve-2.ensures.items (listed_same old.held.entries c.reserve.new.self.entries old.tasks.items old.made.items c.self.invariant.0 c.reserve.ensures.entries.2),
      omega (arith, c.self.invariant.1, c.reserve.ensures.spare),
      omega (arith, c.self.invariant.2, c.reserve-2.ensures.len, c.reserve-2.ensures.capacity),
      c.self.invariant.3,
    )

pub invariant_of-self-in_err-reserve-3 : goal.invariant_of-self-in_err-reserve-3
invariant_of-self-in_err-reserve-3 c =
    let old = c.self.inside in (
      rw (c.reserve-2.ensures.items, c.reserve-3.ensures.items) (listed_same old.held.entries c.reserve.new.self.entries old.tasks.items old.made.items c.self.invariant.0 c.reserve.ensures.entries.2),
      omega (arith, c.self.invariant.1, c.reserve.ensures.spare),
      omega (arith, c.self.invariant.2, c.reserve-2.ensures.len, c.reserve-2.ensures.capacity),
      omega (arith, c.self.invariant.3, c.reserve-3.ensures.len, c.reserve-3.ensures.capacity),
    )

pub invariant_of-self-then-self-rows : goal.invariant_of-self-then-self-rows
invariant_of-self-then-self-rows c =
    let old = c.self.inside in (
      rw (c.reserve-2.ensures.items, c.reserve-3.ensures.items) (listed_same old.held.entries c.reserve.new.self.entries old.tasks.items old.made.items c.self.invariant.0 c.reserve.ensures.entries.2),
      search rules,
      search rules,
      search rules,
    )

pub invariant_of-self-else-self-rows : goal.invariant_of-self-else-self-rows
invariant_of-self-else-self-rows c =
    let old = c.self.inside in (
      rw (c.reserve-2.ensures.items, c.reserve-3.ensures.items) (listed_same old.held.entries c.reserve.new.self.entries old.tasks.items old.made.items c.self.invariant.0 c.reserve.ensures.entries.2),
      omega (arith, c.self.invariant.1, c.reserve.ensures.spare),
      omega (arith, c.self.invariant.2, c.reserve-2.ensures.len, c.reserve-2.ensures.capacity),
      omega (arith, c.self.invariant.3, c.reserve-3.ensures.len, c.reserve-3.ensures.capacity),
    )

pub returns-in_err-reserve-2-clause-found : goal.returns-in_err-reserve-2-clause-found
returns-in_err-reserve-2-clause-found c id = c.reserve.ensures.entries.2 id ∙ ap (λ (v : WaitingView). row_at v.rows id) c.self.view_is

pub returns-in_err-reserve-3-clause-found : goal.returns-in_err-reserve-3-clause-found
returns-in_err-reserve-3-clause-found c id = c.reserve.ensures.entries.2 id ∙ ap (λ (v : WaitingView). row_at v.rows id) c.self.view_is

pub returns-then-self-rows-clause-found : goal.returns-then-self-rows-clause-found
returns-then-self-rows-clause-found c id = c.reserve.ensures.entries.2 id ∙ ap (λ (v : WaitingView). row_at v.rows id) c.self.view_is

pub returns-else-self-rows-clause-found : goal.returns-else-self-rows-clause-found
returns-else-self-rows-clause-found c id = c.reserve.ensures.entries.2 id ∙ ap (λ (v : WaitingView). row_at v.rows id) c.self.view_is
