use Rattle.std.proofs.Common.{[], None, ◌≡◌, sym, subst}
use Rattle.bank_history.specs.ObjectHistory.{ObjectsView, HoldHistories, held_at}
use Rattle.bank_history.proofs.ObjectHistoryLemmas.{begins_kept}
use Rattle.bank_history.proofs.objects.Objects.begin.Goals as goal

pub returns-clause-holds : goal.returns-clause-holds
returns-clause-holds c entries all =
    let absent = subst (λ (v : ObjectsView). held_at c.args.object v.held ≡ None) (sym c.self.view_is) c.requires.absent in
    begins_kept c.self.inside.width c.self.inside.held.entries c.insert.new.self.entries c.args.object c.reserve.new.self entries absent c.in_ok-insert.ensures.updates.0
    (c.reserve.ensures.holds [] c.self.inside.width c.in_ok-kept.ensures)
    (subst (HoldHistories entries) (sym c.self.view_is) all)
