use Rattle.std.proofs.Common.{List, [], ℕ, sym, subst}
use Rattle.bank_model.specs.Objects.{history_of}
use Rattle.bank_model.proofs.Histories.{history_of-none}
use Rattle.bank_history.specs.ObjectHistory.{ObjectHistoryView, HoldsHistoryOr, held_at}
use Rattle.bank_history.proofs.objects.Objects.new.Goals as goal

pub returns-clause-holds : goal.returns-clause-holds
returns-clause-holds c object =
    subst (λ (table : List (ℕ × ObjectHistoryView)). HoldsHistoryOr (history_of object []) c.args.width (held_at object table)) (sym c.new.ensures.empty) (history_of-none object)
