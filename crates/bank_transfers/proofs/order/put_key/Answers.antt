use Rattle.std.proofs.Common.{arith}
use Rattle.bank_transfers.proofs.OrderLemmas.{rising, sorted_insert, has_insert, has_found}
use Rattle.bank_transfers.proofs.order.put_key.Goals as goal

pub returns-in-Err-clause-sorted : goal.returns-in-Err-clause-sorted
returns-in-Err-clause-sorted g c =
    let keys = c.args.keys.now.items in
    let at = (rw c.deref.ensures.value at c.in-Err.ensures.position) (rising g.met.K.Ord.total keys c.args.key c.requires.sorted) in
    rw (c.insert-put.ensures.items, c.unwrap.ensures)
    (sorted_insert g.met.K.Ord.total keys c.in-Err.index c.args.key c.requires.sorted (λ k d less within. at.0 k d (omega arith) less) at.1)

pub returns-in-Err-clause-has : goal.returns-in-Err-clause-has
returns-in-Err-clause-has g c other =
    rw (c.insert-put.ensures.items, c.unwrap.ensures)
    (has_insert g.met.K.Ord.total c.args.keys.now.items c.in-Err.index c.args.key other)

pub returns-in-Ok-clause-has : goal.returns-in-Ok-clause-has
returns-in-Ok-clause-has g c other =
    has_found g.met.K.Ord.total c.args.keys.now.items c.in-Ok._there c.args.key other
    (rw c.deref.ensures.value at c.in-Ok.ensures.bound)
    (rw c.deref.ensures.value at c.in-Ok.ensures.position)
