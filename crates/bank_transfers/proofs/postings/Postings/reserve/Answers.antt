use Rattle.std.proofs.Common.{◌∙◌, ap, arith}
use Rattle.bank_transfers.specs.Chain.{index_or_none}
use Rattle.bank_transfers.proofs.postings.Postings.reserve.Goals as goal

pub invariant_of-self : goal.invariant_of-self
invariant_of-self c =
    let i = c.self.invariant in
    let held = c.reserve.ensures in
    rw held.items (i.0, i.1, i.2, i.3, omega (arith, i.4, held.len, held.capacity), i.5, i.6)

pub invariant_of-self-in_err-reserve-2 : goal.invariant_of-self-in_err-reserve-2
invariant_of-self-in_err-reserve-2 c =
    let i = c.self.invariant in
    let held = c.reserve.ensures in
    let accounts = c.reserve-2.ensures in
    rw held.items (
      i.0,
      i.1,
      (λ key. ap index_or_none (accounts.entries.2 key) ∙ i.2 key),
      i.3,
      omega (arith, i.4, held.len, held.capacity),
      omega (arith, i.5, accounts.spare),
      i.6,
    )

pub invariant_of-self-in_err-reserve-3 : goal.invariant_of-self-in_err-reserve-3
invariant_of-self-in_err-reserve-3 c =
    let i = c.self.invariant in
    let held = c.reserve.ensures in
    let accounts = c.reserve-2.ensures in
    let ids = c.reserve-3.ensures in
    rw held.items (
      i.0,
      i.1,
      (λ key. ap index_or_none (accounts.entries.2 key) ∙ i.2 key),
      (λ key. ap index_or_none (ids.entries.2 key) ∙ i.3 key),
      omega (arith, i.4, held.len, held.capacity),
      omega (arith, i.5, accounts.spare),
      omega (arith, i.6, ids.spare),
    )

pub invariant_of-self-then-self-postings : goal.invariant_of-self-then-self-postings
invariant_of-self-then-self-postings c =
    let i = c.self.invariant in
    let held = c.reserve.ensures in
    let accounts = c.reserve-2.ensures in
    let ids = c.reserve-3.ensures in
    rw held.items (
      i.0,
      i.1,
      (λ key. ap index_or_none (accounts.entries.2 key) ∙ i.2 key),
      (λ key. ap index_or_none (ids.entries.2 key) ∙ i.3 key),
      omega (arith, c.in_ok-reserve.ensures.ok),
      omega (arith, c.in_ok-reserve-2.ensures.ok),
      omega (arith, c.in_ok-reserve-3.ensures.ok),
    )

pub invariant_of-self-else-self-postings : goal.invariant_of-self-else-self-postings
invariant_of-self-else-self-postings c =
    let i = c.self.invariant in
    let held = c.reserve.ensures in
    let accounts = c.reserve-2.ensures in
    let ids = c.reserve-3.ensures in
    rw held.items (
      i.0,
      i.1,
      (λ key. ap index_or_none (accounts.entries.2 key) ∙ i.2 key),
      (λ key. ap index_or_none (ids.entries.2 key) ∙ i.3 key),
      omega (arith, i.4, held.len, held.capacity),
      omega (arith, i.5, accounts.spare),
      omega (arith, i.6, ids.spare),
    )
