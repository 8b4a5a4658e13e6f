use Rattle.std.proofs.Common.{◌++◌, sym, ap, ◌∙◌}
use Rattle.bank_history.specs.HistoryView.{HistoryView}
use Rattle.bank_history.specs.Made.{made_of}
use Rattle.bank_history.proofs.MadeLemmas.{made_of-append}
use Rattle.bank_history.proofs.history.History.made.Goals as goal

pub returns : goal.returns
returns c =
    let at = c.self.invariant.3 in
    c.in_ok-put_made-2.ensures
    ∙ ap (λ l. c.put_made.new.made.items ++ made_of c.args.object l) c.as_slice.ensures.value
    ∙ ap (λ l. l ++ made_of c.args.object c.self.inside.recent.items) (c.in_ok-put_made.ensures at.prefix at.holds ∙ ap (λ l. l ++ made_of c.args.object at.prefix) c.new-made.ensures.items)
    ∙ sym (made_of-append c.args.object at.prefix c.self.inside.recent.items)
    ∙ ap (made_of c.args.object) at.all
    ∙ ap (λ (v : HistoryView). made_of c.args.object v.entries) c.self.view_is
