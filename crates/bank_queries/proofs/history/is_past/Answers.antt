use Rattle.std.proofs.Common.{◌≡◌, ◌++◌, ◌-◌, length, take, nat_lt, ap, ◌∙◌, arith}
use Rattle.bank_model.specs.declared.event.State.{State}
use Rattle.bank_model.specs.declared.setup.Setup.{Setup}
use Rattle.bank_model.specs.Objects as objects
use Rattle.bank_model.specs.Objects.{history_of, last_number, last_number_from}
use Rattle.bank_queries.proofs.HistoryLemmas.{floor-before, floor-after}
use Rattle.bank_queries.proofs.history.is_past.Goals as goal

pub is_past-requires : goal.is_past-requires
is_past-requires c = record { kept = omega (arith, c.ledger-ledger.ensures.window, ap (λ (s : Setup). s.window) c.setup.ensures.setup) }

pub returns-then-later-window : goal.returns-then-later-window
returns-then-later-window c =
    let later : c.count_of-later.result ≡ length (history_of c.args.object c.args.draft.now.entries) = c.count_of-later.ensures ∙ ap (λ l. length (history_of c.args.object l)) c.entries.ensures in
    c.is_past.ensures
    ∙ ap (λ (S : State). nat_lt c.args.token (last_number (take (length (history_of c.args.object S.entries) - (c.setup.result.now.window - c.count_of-later.result)) (history_of c.args.object S.entries)))) c.ledger-ledger.ensures.state
    ∙ ap (nat_lt c.args.token) (floor-before c.setup.result.now.window c.args.object c.args.draft.now.before.entries c.args.draft.now.entries c.count_of-later.result later c.if-later-window.true
    ∙ ap (λ (s : Setup). objects.floor s.window c.args.object (c.args.draft.now.before.entries ++ c.args.draft.now.entries)) c.setup.ensures.setup)

pub returns : goal.returns
returns c =
    let later : c.count_of-later.result ≡ length (history_of c.args.object c.args.draft.now.entries) = c.count_of-later.ensures ∙ ap (λ l. length (history_of c.args.object l)) c.entries.ensures in
    ap (nat_lt c.args.token) (
    c.number_at-number.ensures
    ∙ ap (λ l. last_number_from c.newest-before.result (take (c.count_of-later.result - c.setup.result.now.window) (history_of c.args.object l))) c.entries-2.ensures
    ∙ floor-after c.setup.result.now.window c.args.object c.args.draft.now.before.entries c.args.draft.now.entries c.count_of-later.result c.newest-before.result later (omega (arith, c.if-later-window.false))
    (c.newest-before.ensures ∙ ap (λ (S : State). objects.newest c.args.object S.entries) c.ledger-ledger.ensures.state)
    ∙ ap (λ (s : Setup). objects.floor s.window c.args.object (c.args.draft.now.before.entries ++ c.args.draft.now.entries)) c.setup.ensures.setup)
