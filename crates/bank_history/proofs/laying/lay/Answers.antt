use Rattle.std.proofs.Common.{reverse, sym, subst}
use Rattle.std.proofs.lemmas.List.{reverse-reverse}
use Rattle.bank_history.specs.EntryTrace.{entries_of}
use Rattle.bank_history.specs.HistoryHeld.{IsLaidBefore}
use Rattle.bank_history.proofs.laying.lay.Goals as goal

pub lay_from_end-outcome-requires-clause-laid : goal.lay_from_end-outcome-requires-clause-laid
lay_from_end-outcome-requires-clause-laid c =
    subst (λ l. IsLaidBefore c.args.laid.now (reverse l) (entries_of c.args.past.now)) (sym c.reverse.ensures.items)
    (subst (λ l. IsLaidBefore c.args.laid.now l (entries_of c.args.past.now)) (sym (reverse-reverse c.args.recent.now.items)) c.requires.laid)

pub returns-clause-laid : goal.returns-clause-laid
returns-clause-laid c =
    subst (λ l. IsLaidBefore c.lay_from_end-outcome.new.laid l (entries_of c.args.past.now)) (sym c.reverse-2.ensures.items) c.lay_from_end-outcome.ensures.laid
