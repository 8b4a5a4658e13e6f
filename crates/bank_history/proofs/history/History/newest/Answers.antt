use Rattle.std.proofs.Common.{ap, ◌∙◌}
use Rattle.bank_model.specs.Objects as objects
use Rattle.bank_history.specs.HistoryView.{HistoryView}
use Rattle.bank_history.proofs.history.History.newest.Goals as goal

pub returns : goal.returns
returns c = c.last_at.ensures ∙ c.self.invariant.1 c.args.object ∙ ap (λ (v : HistoryView). objects.newest c.args.object v.entries) c.self.view_is
