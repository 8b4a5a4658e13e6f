use Rattle.std.proofs.Common.{[], refl, sym, arith}
use Rattle.bank_history.proofs.HistoryHeldLemmas.{newest_none}
use Rattle.bank_history.proofs.history.History.new.Goals as goal

pub invariant_of-result : goal.invariant_of-result
invariant_of-result c =
    rw (c.new.ensures.empty, c.new-3.ensures.items) (
      (λ k d within. absurd (omega (arith, within))),
      (λ object. sym (newest_none object)),
      refl,
      record { prefix = []; holds = c.new-2.ensures.holds; all = refl },
      omega arith,
      omega arith,
    )
