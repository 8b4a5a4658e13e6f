use Rattle.std.proofs.Common.{◌≡◌, ◌+◌, ◌++◌, ◌∷◌, [], length, cond, eqb, Some, refl, sym, subst, ap, ◌∙◌, arith}
use Rattle.std.specs.List.{All}
use Rattle.std.specs.Map.{lookup}
use Rattle.std.proofs.lemmas.List.{map-append, length-map}
use Rattle.std.proofs.lemmas.List.Elements.{All-push}
use Rattle.bank_model.specs.Ledger.{Posting}
use Rattle.bank_transfers.specs.declared.postings.Linked.{Linked}
use Rattle.bank_transfers.specs.Chain.{touches, is_of, last_by, posting_of, postings_of, index_or_none, IsLinked, AreLinked}
use Rattle.bank_transfers.specs.PostingsView.{PostingsView, IsPosted}
use Rattle.bank_transfers.proofs.ChainLemmas.{linked_push, lasts_set, id_set}
use Rattle.bank_transfers.proofs.postings.Postings.post.Goals as goal

pub link_to-from_link-requires-clause-linked : goal.link_to-from_link-requires-clause-linked
link_to-from_link-requires-clause-linked c = rw c.deref.ensures.value c.self.invariant.1

pub link_to-from_link-requires-clause-before : goal.link_to-from_link-requires-clause-before
link_to-from_link-requires-clause-before c = rw c.deref.ensures.value (c.last_at.ensures ∙ c.self.invariant.2 c.key_of-from.result)

pub link_to-to_link-requires-clause-linked : goal.link_to-to_link-requires-clause-linked
link_to-to_link-requires-clause-linked c = rw c.deref-2.ensures.value c.self.invariant.1

pub link_to-to_link-requires-clause-before : goal.link_to-to_link-requires-clause-before
link_to-to_link-requires-clause-before c = rw c.deref-2.ensures.value (c.last_at-2.ensures ∙ c.self.invariant.2 c.key_of-to.result)

pub invariant_of-self : goal.invariant_of-self
invariant_of-self c =
    let held = c.self.inside.held.items in
    let linked : Linked = record { number = c.args.number; row = c.args.row; from_link = c.link_to-from_link.result; to_link = c.link_to-to_link.result } in
    let posting : Posting = posting_of linked in
    let all : c.push_reserved.new.self.items ≡ held ++ linked ∷ [] = c.push_reserved.ensures.items in
    let seen : postings_of c.push_reserved.new.self.items ≡ postings_of held ++ posting ∷ [] = ap postings_of all ∙ map-append posting_of held (linked ∷ []) in
    let from = subst (λ n. IsLinked n linked.from_link (length held) (postings_of held ++ posting ∷ [])) c.key_of-from.ensures (rw c.deref.ensures.value at c.link_to-from_link.ensures posting refl) in
    let to = subst (λ n. IsLinked n linked.to_link (length held) (postings_of held ++ posting ∷ [])) c.key_of-to.ensures (rw c.deref-2.ensures.value at c.link_to-to_link.ensures posting refl) in
    let size : c.len-count.result ≡ length held = c.len-count.ensures ∙ c.self.inside.held.ok.0 in
    let left : c.self.inside.left ≡ c.args.self.now.room = ap (λ (v : PostingsView). v.room) c.self.view_is in
    let located : c.len-count.result + 1 ≡ length (postings_of held) + 1 = ap (λ n. n + 1) (size ∙ sym (length-map held posting_of)) in (
      subst (All IsPosted) (sym seen) (All-push IsPosted (postings_of held) posting c.self.invariant.0 (c.requires.amount, c.requires.posted)),
      subst AreLinked (sym all) (linked_push held linked c.self.invariant.1 from to),
      (λ key.
          ap index_or_none (c.set_index-2.ensures.indices key ∙ ap (cond (eqb c.key_of-to.result key) (Some (c.len-count.result + 1))) (c.set_index.ensures.indices key))
          ∙ lasts_set c.key_of-from.result c.key_of-to.result key (c.len-count.result + 1) (lookup (λ k. eqb key k) c.self.inside.accounts.entries) (postings_of held) posting located (sym c.key_of-from.ensures) (sym c.key_of-to.ensures) (c.self.invariant.2 key)
          ∙ ap (last_by (touches key)) (sym seen)),
      (λ key.
          ap index_or_none (c.set_index-3.ensures.indices key)
          ∙ id_set c.args.row.id key (c.len-count.result + 1) (lookup (λ k. eqb key k) c.self.inside.ids.entries) (postings_of held) posting located refl (c.self.invariant.3 key)
          ∙ ap (last_by (is_of key)) (sym seen)),
      omega (arith, c.self.invariant.4, c.push_reserved.ensures.len, c.push_reserved.ensures.capacity, left, c.requires.room),
      omega (arith, c.self.invariant.5, c.set_index.ensures.room, c.set_index-2.ensures.room, left, c.requires.room),
      omega (arith, c.self.invariant.6, c.set_index-3.ensures.room, left, c.requires.room),
    )

pub returns-clause-postings : goal.returns-clause-postings
returns-clause-postings c =
    let held = c.self.inside.held.items in
    let linked : Linked = record { number = c.args.number; row = c.args.row; from_link = c.link_to-from_link.result; to_link = c.link_to-to_link.result } in
    ap postings_of c.push_reserved.ensures.items ∙ map-append posting_of held (linked ∷ []) ∙ ap (λ (v : PostingsView). v.postings ++ posting_of linked ∷ []) c.self.view_is
