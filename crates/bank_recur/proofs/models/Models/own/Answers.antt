use Rattle.std.proofs.Common.{sym, ap, ◌∙◌}
use Rattle.bank_recur.specs.ModelsView.{ModelsView, series_found}
use Rattle.bank_recur.proofs.RepresentsLemmas.{is_at, none_found}
use Rattle.bank_recur.proofs.models.Models.own.Goals as goal

pub returns-in-Some : goal.returns-in-Some
returns-in-Some c =
    sym (is_at c.args.id c.in-Some.at c.index.result.now c.self.inside.series.items c.args.self.now.series c.index_of.result c.index_of.ensures (sym (ap (λ (v : ModelsView). v.series) c.self.view_is)) c.in-Some.is c.index.ensures).found
    ∙ ap (λ (v : ModelsView). series_found c.args.id v.series) c.self.view_is

pub returns-in-None : goal.returns-in-None
returns-in-None c =
    sym (none_found c.args.id c.self.inside.series.items c.args.self.now.series c.index_of.result c.index_of.ensures (sym (ap (λ (v : ModelsView). v.series) c.self.view_is)) c.in-None.is)
    ∙ ap (λ (v : ModelsView). series_found c.args.id v.series) c.self.view_is
