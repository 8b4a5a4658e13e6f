use Rattle.std.proofs.Common.{◌≡◌, ◌<◌, None, cond, ◌||◌, refl, sym, subst, ap, ◌∙◌, arith}
use Rattle.std.proofs.lemmas.Bool.{eq-eqb}
use Rattle.std.specs.Ordering.{eq_by_cmp}
use Rattle.bank_transfers.specs.Order.{has}
use Rattle.bank_transfers.specs.TransfersView.{row_at}
use Rattle.bank_transfers.specs.Waiting.{WaitingView, task_order, made_order}
use Rattle.bank_transfers.proofs.ListedLemmas.{listed_more}
use Rattle.bank_transfers.proofs.waiting.Waiting.put.Goals as goal

pub invariant_of-self : goal.invariant_of-self
invariant_of-self c =
    let old = c.self.inside in
    let row = c.args.row in
    let new : row_at old.held.entries row.id ≡ None =
    ap (λ (v : WaitingView). row_at v.rows row.id) c.self.view_is ∙ c.remove_row.ensures.found row.id ∙ ap (λ b. cond b None (row_at c.args.self.now.rows row.id)) (eq-eqb row.id row.id refl) in
    let some : 0 < old.left = subst (λ (v : WaitingView). 0 < v.room) (sym c.self.view_is) (omega (arith, c.requires.room, c.remove_row.ensures.room)) in (
      listed_more old.held.entries c.insert-put.new.self.entries old.tasks.items old.made.items c.self.invariant.0 row c.put_key.new.keys.items c.put_key-2.new.keys.items
          new
          (λ q. (rw c.unwrap-none.ensures at c.insert-put.ensures.updates).0 q)
          c.put_key.ensures.sorted
          (λ k. c.put_key.ensures.has k ∙ ap (λ key. eq_by_cmp task_order k key || has task_order old.tasks.items k) c.task_key.ensures)
          c.put_key-2.ensures.sorted
          (λ k. c.put_key-2.ensures.has k ∙ ap (λ key. eq_by_cmp made_order k key || has made_order old.made.items k) c.made_key.ensures),
      omega (arith, c.self.invariant.1, c.insert-put.ensures.spare),
      omega (arith, some, c.self.invariant.2, c.put_key.ensures.len, c.put_key.ensures.capacity),
      omega (arith, some, c.self.invariant.3, c.put_key-2.ensures.len, c.put_key-2.ensures.capacity),
    )
