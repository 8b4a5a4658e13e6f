use Rattle.std.proofs.Common.{List, ℕ, sym, ap, ◌∙◌, subst}
use Rattle.std.specs.Prelude.{is_some}
use Rattle.std.specs.Option.{option_copied_mut}
use Rattle.bank_history.specs.ObjectHistory.{ObjectHistoryView, ObjectsView, HoldHistories, held_at, newest_in}
use Rattle.bank_history.proofs.ObjectHistoryLemmas.{stays_kept}
use Rattle.bank_history.proofs.objects.Objects.reserve.Goals as goal

pub returns-in-Some-clause-holds : goal.returns-in-Some-clause-holds
returns-in-Some-clause-holds c entries all =
    let found = sym c.get_mut.ensures.value ∙ ap option_copied_mut c.in-Some.is in
    stays_kept c.self.inside.width c.self.inside.held.entries (c.get_mut.follows.lender c.reserve.new.self).entries c.args.object c.in-Some.kept.now c.reserve.new.self entries found
    ((c.get_mut.follows.holds c.reserve.new.self).3 (ap is_some found)).0
    (λ history is. c.reserve.ensures.holds history c.self.inside.width is)
    (subst (HoldHistories entries) (sym c.self.view_is) all)

pub returns-in-Some-clause-newest : goal.returns-in-Some-clause-newest
returns-in-Some-clause-newest c =
    let found = sym c.get_mut.ensures.value ∙ ap option_copied_mut c.in-Some.is in
    ap newest_in ((c.get_mut.follows.holds c.reserve.new.self).3 (ap is_some found)).1
    ∙ c.reserve.ensures.newest
    ∙ ap newest_in (sym found)
    ∙ ap (λ (v : ObjectsView). newest_in (held_at c.args.object v.held)) c.self.view_is

pub returns-in-None-clause-holds : goal.returns-in-None-clause-holds
returns-in-None-clause-holds c entries all =
    c.begin.ensures.holds entries
    (subst (λ (table : List (ℕ × ObjectHistoryView)). HoldHistories entries (record { width = c.self.inside.width; held = table })) (sym (ap (λ m. m.entries) c.get_mut.follows.holds-at-none)) (subst (HoldHistories entries) (sym c.self.view_is) all))
