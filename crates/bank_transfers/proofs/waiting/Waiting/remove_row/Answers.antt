use Rattle.std.proofs.Common.{◌≡◌, Some, None, cond, eqb, not, ◌&&◌, sym, subst, ap, ◌∙◌, arith}
use Rattle.std.specs.Option.{IfSome}
use Rattle.std.specs.Ordering.{eq_by_cmp}
use Rattle.ofx_types.specs.declared.transfer.TransferRow.{TransferRow}
use Rattle.bank_transfers.specs.Order.{has}
use Rattle.bank_transfers.specs.TransfersView.{row_at}
use Rattle.bank_transfers.specs.Waiting.{task_order, made_order}
use Rattle.bank_transfers.proofs.ListedLemmas.{listed_less}
use Rattle.bank_transfers.proofs.waiting.Waiting.remove_row.Goals as goal

pub invariant_of-self-2 : goal.invariant_of-self-2
invariant_of-self-2 c =
    let old = c.self.inside in
    let row = c.in-Some.row in
    let found : row_at old.held.entries c.args.id ≡ Some row = sym c.remove.ensures.value ∙ c.in-Some.is in
    let same : row.id ≡ c.args.id = subst (λ f. IfSome f (λ (r : TransferRow). r.id ≡ c.args.id)) found (c.self.invariant.0.keyed c.args.id) in (
      listed_less old.held.entries c.remove.new.self.entries old.tasks.items old.made.items c.self.invariant.0 row c.remove_key.new.keys.items c.remove_key-2.new.keys.items
          (ap (row_at old.held.entries) same ∙ found)
          (λ q. c.remove.ensures.updates.0 q ∙ ap (λ n. cond (eqb n q) None (row_at old.held.entries q)) (sym same))
          c.remove_key.ensures.sorted
          (λ k. c.remove_key.ensures.has k ∙ ap (λ key. has task_order old.tasks.items k && not (eq_by_cmp task_order k key)) c.task_key.ensures)
          c.remove_key-2.ensures.sorted
          (λ k. c.remove_key-2.ensures.has k ∙ ap (λ key. has made_order old.made.items k && not (eq_by_cmp made_order k key)) c.made_key.ensures),
      omega (arith, c.self.invariant.1, c.remove.ensures.spare),
      omega (arith, c.self.invariant.2, c.remove_key.ensures.len, c.remove_key.ensures.capacity),
      omega (arith, c.self.invariant.3, c.remove_key-2.ensures.len, c.remove_key-2.ensures.capacity),
    )
