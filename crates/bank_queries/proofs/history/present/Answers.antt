use Rattle.std.proofs.Common.{◌++◌, codes, map, sym, ap, ◌∙◌}
use Rattle.std.specs.List.{flat_map}
use Rattle.bank_model.specs.declared.event.State.{State}
use Rattle.bank_model.specs.Sync.{present, reply_with_change}
use Rattle.bank_history.specs.Made.{made_of, current_of}
use Rattle.bank_history.proofs.MadeLemmas.{made_of-append}
use Rattle.bank_ledger.specs.DraftView.{drafted}
use Rattle.bank_queries.proofs.HistoryLemmas.{made_holds}
use Rattle.bank_queries.proofs.history.present.Goals as goal

pub returns : goal.returns
unfolding present
returns c =
    let all = (drafted c.args.draft.now).entries in
    let before = c.args.draft.now.before.entries in
    let made =
    c.deref.ensures.value
    ∙ c.in_ok-put_made.ensures
    ∙ ap (λ l. l ++ made_of c.args.object c.entries.result.now) (c.in_ok-made.ensures ∙ ap (λ (S : State). made_of c.args.object S.entries) c.ledger.ensures.state)
    ∙ ap (λ l. made_of c.args.object before ++ made_of c.args.object l) c.entries.ensures
    ∙ sym (made_of-append c.args.object before c.args.draft.now.entries) in
    c.in_ok-report_all_made.ensures
    ∙ ap (λ l. l ++ map (reply_with_change c.args.family (codes "0")) (flat_map (current_of all) c.deref.result.now)) c.new-reported.ensures.items
    ∙ ap (λ l. map (reply_with_change c.args.family (codes "0")) (flat_map (current_of all) l)) made
    ∙ ap (map (reply_with_change c.args.family (codes "0"))) (made_holds all c.args.object all)
