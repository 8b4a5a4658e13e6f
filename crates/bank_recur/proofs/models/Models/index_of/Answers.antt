use Rattle.std.proofs.Common.{eqb, ap, ◌∙◌}
use Rattle.std.specs.List.{position}
use Rattle.bank_recur.specs.ModelsView.{Series, ModelsView}
use Rattle.bank_recur.proofs.RepresentsLemmas.{index_by_id}
use Rattle.bank_recur.proofs.models.Models.index_of.Goals as goal

pub returns-in-Some : goal.returns-in-Some
returns-in-Some c =
    c.in-Some.ensures.value ∙ c.self.invariant.1 c.args.id ∙ index_by_id c.args.id c.self.inside.series.items
    ∙ ap (λ (v : ModelsView). position (λ (one : Series). eqb one.row.id c.args.id) v.series) c.self.view_is

pub returns-in-None : goal.returns-in-None
returns-in-None c =
    c.in-None.ensures.value ∙ c.self.invariant.1 c.args.id ∙ index_by_id c.args.id c.self.inside.series.items
    ∙ ap (λ (v : ModelsView). position (λ (one : Series). eqb one.row.id c.args.id) v.series) c.self.view_is
