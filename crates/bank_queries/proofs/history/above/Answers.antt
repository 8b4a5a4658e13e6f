use Rattle.std.proofs.Common.{ℕ, ◌≤◌, Option, ◌++◌, map, filter, sym, ap, ◌∙◌, subst, arith}
use Rattle.std.specs.Option.{IfSome}
use Rattle.bank_history.proofs.HistoryHeldLemmas.{floor_grows}
use Rattle.bank_model.specs.Objects.{history_of, floor}
use Rattle.bank_model.specs.Sync.{reply_of_entry, entries_above, is_above}
use Rattle.bank_model.specs.declared.event.State.{State}
use Rattle.bank_ledger.specs.DraftView.{drafted}
use Rattle.bank_queries.proofs.HistoryLemmas.{lent, reported_above, reported_above-append, both_parts}
use Rattle.bank_queries.proofs.history.above.Goals as goal

pub since-requires : goal.since-requires
since-requires c =
    let window = c.args.draft.now.setup.window in
    let before = c.args.draft.now.before.entries in
    let least = subst (λ (t : Option ℕ). IfSome t (λ (token : ℕ). floor window c.args.object (drafted c.args.draft.now).entries ≤ token)) c.in-Some.is c.requires.floor in
    let grows = floor_grows window c.args.object before c.args.draft.now.entries c.ledger.ensures.sound.numbered in
    let same = ap (λ (n : ℕ). floor n c.args.object c.ledger.result.now.state.entries) c.ledger.ensures.window ∙ ap (λ (S : State). floor window c.args.object S.entries) c.ledger.ensures.state in
    record { floor = omega (arith, least, grows, same) }

pub returns-in_ok-report_above-in-Some : goal.returns-in_ok-report_above-in-Some
returns-in_ok-report_above-in-Some c =
    both_parts (reported_above c.args.family c.in-Some.token c.args.object) c.args.draft.now.before.entries c.args.draft.now.entries c.new-reported.result.items c.report_entries.new.reported.items c.report_above.new.reported.items (reported_above-append c.args.family c.in-Some.token c.args.object) c.new-reported.ensures.items
    (c.in_ok-report_entries-in-Some.ensures
    ∙ ap (λ l. c.new-reported.result.items ++ map (reply_of_entry c.args.family) l) (ap lent c.deref.ensures.value ∙ c.in_ok-before-in-Some.ensures ∙ ap (λ (S : State). filter (is_above c.in-Some.token) (history_of c.args.object S.entries)) c.ledger.ensures.state))
    (c.in_ok-report_above-in-Some.ensures ∙ ap (λ l. c.report_entries.new.reported.items ++ reported_above c.args.family c.in-Some.token c.args.object l) c.entries.ensures)
    ∙ ap (λ (t : Option ℕ). map (reply_of_entry c.args.family) (entries_above t (history_of c.args.object (drafted c.args.draft.now).entries))) (sym c.in-Some.is)
