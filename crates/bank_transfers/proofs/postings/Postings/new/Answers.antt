use Rattle.std.proofs.Common.{refl, arith}
use Rattle.std.proofs.lemmas.List.Elements.{All-nil}
use Rattle.bank_transfers.specs.PostingsView.{IsPosted}
use Rattle.bank_transfers.proofs.postings.Postings.new.Goals as goal

pub invariant_of-result : goal.invariant_of-result
invariant_of-result c =
    rw (c.new.ensures.items, c.new-2.ensures.empty, c.new-3.ensures.empty) (
      All-nil IsPosted,
      (λ k d within. absurd (omega (arith, within))),
      (λ key. refl),
      (λ key. refl),
      omega arith,
      omega arith,
      omega arith,
    )
