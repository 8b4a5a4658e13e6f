use Rattle.std.proofs.Common.{ap, ◌∙◌}
use Rattle.bank_model.specs.Objects.{floor}
use Rattle.token_window.specs.WindowView.{WindowView}
use Rattle.token_window.proofs.window.Window.floor.Goals as goal

pub returns-clause-represented : goal.returns-clause-represented
unfolding floor
returns-clause-represented c object entries width holds = ap (λ (v : WindowView). v.floor) c.self.view_is ∙ holds.floor
