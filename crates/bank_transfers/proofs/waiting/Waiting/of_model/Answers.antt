use Rattle.std.proofs.Common.{map, filter, not, ltb, leb, subst, ap, ◌∙◌}
use Rattle.std.proofs.lemmas.List.{take_all}
use Rattle.bank_transfers.specs.declared.waiting.Made.{Made}
use Rattle.bank_transfers.specs.Waiting.{WaitingView, AreListed}
use Rattle.bank_transfers.proofs.MadeLemmas.{models_fall, from_falls, read_off}
use Rattle.bank_transfers.proofs.waiting.Waiting.of_model.Goals as goal

pub from-requires : goal.from-requires
from-requires c = rw c.deref.ensures.value (models_fall c.self.inside.made.items c.self.invariant.0.by_model.sorted)

pub up_to-made-items-requires : goal.up_to-made-items-requires
up_to-made-items-requires c = rw (c.from.ensures, c.deref.ensures.value) (from_falls c.self.inside.made.items c.args.model c.self.invariant.0.by_model.sorted)

pub returns : goal.returns
returns c rows are =
    let tasks = c.self.inside.tasks.items in
    let made = c.self.inside.made.items in
    let model = c.args.model in
    c.loop-made.invariant
    ∙ ap (map (λ (m : Made). m.id)) (take_all c.loop-made.made-index c.up_to-made-items.result.now c.loop-made-test.false ∙ c.up_to-made-items.ensures
    ∙ ap (filter (λ (m : Made). leb model m.model.0)) (c.from.ensures ∙ ap (filter (λ (m : Made). not (ltb model m.model.0))) c.deref.ensures.value))
    ∙ read_off c.args.self.now tasks made rows model (subst (λ (v : WaitingView). AreListed v.rows tasks made) c.self.view_is c.self.invariant.0) are
