use Rattle.std.proofs.Common.{◌∙◌, ℕ, List, Ok, ap, subst}
use Rattle.bank_engine.specs.Views.{ReadyView}
use Rattle.bank_engine.proofs.engine.Engine.commit.Goals as goal

pub returns-in-Ok-clause-appends : goal.returns-in-Ok-clause-appends
returns-in-Ok-clause-appends g c =
    subst (λ (rec : List ℕ). g.K.Keeper.appends c.args.keeper.now c.append.new.self rec (Ok tt)) (c.items.ensures ∙ ap (λ (r : ReadyView). r.rec) c.ready.view_is)
    c.in-Ok.ensures.appends
