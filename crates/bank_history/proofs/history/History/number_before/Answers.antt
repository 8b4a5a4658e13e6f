use Rattle.std.proofs.Common.{◌≡◌, ◌-◌, length, take, ap, ◌∙◌, arith}
use Rattle.bank_model.specs.Objects.{history_of, last_number, last_number_from}
use Rattle.bank_history.specs.HistoryView.{HistoryView}
use Rattle.bank_history.specs.ObjectHistory.{held_at}
use Rattle.bank_history.proofs.AmongLemmas.{before_prefix, before_back}
use Rattle.bank_history.proofs.ObjectHistoryLemmas.{narrow_held}
use Rattle.bank_history.proofs.history.History.number_before.Goals as goal

pub number_before-requires : goal.number_before-requires
number_before-requires c =
    let at = c.self.invariant.3 in
    let wide = ap (λ (v : HistoryView). v.width) c.self.view_is in
    record { narrow = narrow_held (history_of c.args.object at.prefix) c.self.inside.laid.objects.width (c.args.kept - c.count_of-later.result) (held_at c.args.object c.self.inside.laid.objects.held) (at.holds.objects c.args.object) (omega (arith, c.requires.kept, wide)) }

pub returns-then-later-kept : goal.returns-then-later-kept
returns-then-later-kept c =
    let at = c.self.invariant.3 in
    let later : c.count_of-later.result ≡ length (history_of c.args.object c.self.inside.recent.items) = c.count_of-later.ensures ∙ ap (λ l. length (history_of c.args.object l)) c.as_slice-recent.ensures.value in
    c.number_before.ensures at.prefix at.holds
    ∙ before_prefix c.args.kept c.args.object at.prefix c.self.inside.recent.items c.count_of-later.result later c.if-later-kept.true
    ∙ ap (λ l. last_number (take (length (history_of c.args.object l) - c.args.kept) (history_of c.args.object l))) at.all
    ∙ ap (λ (v : HistoryView). last_number (take (length (history_of c.args.object v.entries) - c.args.kept) (history_of c.args.object v.entries))) c.self.view_is

pub returns : goal.returns
returns c =
    let at = c.self.invariant.3 in
    let later : c.count_of-later.result ≡ length (history_of c.args.object c.self.inside.recent.items) = c.count_of-later.ensures ∙ ap (λ l. length (history_of c.args.object l)) c.as_slice-recent.ensures.value in
    c.number_at.ensures
    ∙ ap (λ l. last_number_from c.newest-before.result (take (c.count_of-later.result - c.args.kept) (history_of c.args.object l))) c.as_slice-recent.ensures.value
    ∙ before_back c.args.kept c.args.object at.prefix c.self.inside.recent.items c.count_of-later.result c.newest-before.result later (omega (arith, c.if-later-kept.false)) (c.newest-before.ensures at.prefix at.holds)
    ∙ ap (λ l. last_number (take (length (history_of c.args.object l) - c.args.kept) (history_of c.args.object l))) at.all
    ∙ ap (λ (v : HistoryView). last_number (take (length (history_of c.args.object v.entries) - c.args.kept) (history_of c.args.object v.entries))) c.self.view_is
