use Rattle.std.proofs.Common.{subst, sym, ap, ◌∙◌, arith}
use Rattle.std.specs.List.Sorted.{IsStrictlySortedBy}
use Rattle.bank_transfers.specs.Order.{has}
use Rattle.bank_transfers.proofs.OrderLemmas.{rising, apart, sorted_remove, has_remove, has_absent}
use Rattle.bank_transfers.proofs.order.remove_key.Goals as goal

pub returns-in-Ok-clause-sorted : goal.returns-in-Ok-clause-sorted
returns-in-Ok-clause-sorted g c =
    subst (IsStrictlySortedBy g.K.Ord.cmp) (sym c.remove-gone.ensures.items) (sorted_remove g.met.K.Ord.total c.args.keys.now.items c.in-Ok.index c.requires.sorted)

pub returns-in-Ok-clause-has : goal.returns-in-Ok-clause-has
returns-in-Ok-clause-has g c other =
    ap (λ l. has g.K.Ord.cmp l other) c.remove-gone.ensures.items
    ∙ has_remove g.met.K.Ord.total c.args.keys.now.items c.in-Ok.index c.args.key.now other c.requires.sorted
    (rw c.deref.ensures.value at c.in-Ok.ensures.bound)
    (rw c.deref.ensures.value at c.in-Ok.ensures.position)

pub returns-in-Err-clause-has : goal.returns-in-Err-clause-has
returns-in-Err-clause-has g c other =
    let keys = c.args.keys.now.items in
    let at = (rw c.deref.ensures.value at c.in-Err.ensures.position) (rising g.met.K.Ord.total keys c.args.key.now c.requires.sorted) in
    has_absent g.met.K.Ord.total keys c.args.key.now other
    (apart g.met.K.Ord.total keys c.in-Err._absent c.args.key.now (λ k d less. at.0 k d (omega arith) less) at.1)
