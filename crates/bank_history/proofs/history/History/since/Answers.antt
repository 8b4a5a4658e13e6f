use Rattle.std.proofs.Common.{◌≤◌, ◌++◌, filter, sym, ap, ◌∙◌, subst}
use Rattle.bank_model.specs.Objects.{history_of, floor}
use Rattle.bank_model.specs.Sync.{is_above}
use Rattle.bank_history.specs.HistoryView.{HistoryView}
use Rattle.bank_history.specs.ObjectHistory.{held_at}
use Rattle.bank_history.specs.EntryTrace.{entries_of}
use Rattle.bank_history.proofs.AmongLemmas.{above, above-append, lent}
use Rattle.bank_history.proofs.HistoryHeldLemmas.{floor_held}
use Rattle.bank_history.proofs.history.History.since.Goals as goal

pub put_since-requires : goal.put_since-requires
put_since-requires c =
    let at = c.self.invariant.3 in
    let least = subst (λ (v : HistoryView). floor v.width c.args.object v.entries ≤ c.args.token) (sym c.self.view_is) c.requires.floor in
    record { floor = floor_held c.self.inside.laid.objects.width c.args.token c.args.object at.prefix c.self.inside.recent.items (entries_of c.self.inside.past) (held_at c.args.object c.self.inside.laid.objects.held) c.self.invariant.0 at.all (at.holds.objects c.args.object) least }

pub returns : goal.returns
returns c =
    let at = c.self.invariant.3 in
    c.in_ok-put_above.ensures
    ∙ ap (λ l. lent c.put_since.new.since.items ++ above c.args.token c.args.object l) c.as_slice.ensures.value
    ∙ ap (λ l. l ++ above c.args.token c.args.object c.self.inside.recent.items) (c.in_ok-put_since.ensures at.prefix at.holds ∙ ap (λ l. lent l ++ above c.args.token c.args.object at.prefix) c.new-since.ensures.items)
    ∙ sym (above-append c.args.token c.args.object at.prefix c.self.inside.recent.items)
    ∙ ap (above c.args.token c.args.object) at.all
    ∙ ap (λ (v : HistoryView). filter (is_above c.args.token) (history_of c.args.object v.entries)) c.self.view_is
