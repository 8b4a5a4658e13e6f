use Rattle.std.proofs.Common.{◌<◌, sym, ap, ◌∙◌, subst}
use Rattle.std.specs.Prelude.{is_some}
use Rattle.std.specs.Option.{option_copied_mut}
use Rattle.bank_history.specs.ObjectHistory.{ObjectsView, HoldHistories, held_at, room_in, newest_in}
use Rattle.bank_history.proofs.ObjectHistoryLemmas.{adds_kept}
use Rattle.bank_history.proofs.objects.Objects.add.Goals as goal

pub add-requires-clause-room : goal.add-requires-clause-room
add-requires-clause-room c =
    let found = sym c.get_mut.ensures.value ∙ ap option_copied_mut c.in-Some.is in
    let some = subst (λ (v : ObjectsView). 0 < room_in (held_at c.args.entry.object v.held)) (sym c.self.view_is) c.requires.room in
    subst (λ o. 0 < room_in o) found some

pub add-requires-clause-rising : goal.add-requires-clause-rising
add-requires-clause-rising c =
    let found = sym c.get_mut.ensures.value ∙ ap option_copied_mut c.in-Some.is in
    let above = subst (λ (v : ObjectsView). newest_in (held_at c.args.entry.object v.held) < c.args.entry.number) (sym c.self.view_is) c.requires.rising in
    subst (λ o. newest_in o < c.args.entry.number) found above

pub returns-clause-holds : goal.returns-clause-holds
returns-clause-holds c entries all =
    let found = sym c.get_mut.ensures.value ∙ ap option_copied_mut c.in-Some.is in
    adds_kept c.self.inside.width c.self.inside.held.entries (c.get_mut.follows.lender c.add.new.self).entries c.args.entry c.in-Some.kept.now c.add.new.self entries found
    ((c.get_mut.follows.holds c.add.new.self).3 (ap is_some found)).0
    (λ history is. c.add.ensures history c.self.inside.width is)
    (subst (HoldHistories entries) (sym c.self.view_is) all)
