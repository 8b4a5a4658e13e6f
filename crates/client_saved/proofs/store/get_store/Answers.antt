use Rattle.std.proofs.Common.{arith}
use Rattle.client_store.specs.RowForm.{all_seen}
use Rattle.client_saved.proofs.RowLaws.{rows_field}
use Rattle.client_saved.proofs.store.get_store.Goals as goal

pub store_of-requires : goal.store_of-requires
store_of-requires c =
    let rows = (rows_field c.family.result).holds c.args.text.now c.in_ok-lost.next (all_seen c.in_ok-rows.rows, c.in_ok-rows.next) (λ i. omega (arith, c.type_inv.text i)) c.in_ok-lost.ensures.within c.in_ok-rows.ensures.gives in
    rw (c.into_vec.ensures, ← c.family.ensures) rows.1.rising
