use Rattle.std.proofs.Common.{◌≡◌, ◌<◌, true, false, is_some, sym, subst, ◌∙◌, ap, set}
use Rattle.std.specs.Option.{option_map}
use Rattle.bank_recur.specs.ModelsView.{Series, ModelsView, Represents, row_found, occurrence_in_series, occurrence_found, HasIndices}
use Rattle.bank_recur.proofs.RepresentsLemmas.{is_at, found_id, once_set, ids_set, none_found, holds_stepped}
use Rattle.bank_recur.proofs.AheadLemmas.{ahead_set, room_for_exchange, holds_before}
use Rattle.bank_recur.proofs.models.Models.spawned.Goals as goal

pub step-requires : goal.step-requires
step-requires c =
    let there = is_at c.args.id c.in-Some.at c.index_mut-one.result.now c.self.inside.series.items c.args.self.now.series c.index_of.result c.index_of.ensures (sym (ap (λ (v : ModelsView). v.series) c.self.view_is)) c.in-Some.is c.index_mut-one.ensures.value in
    subst (λ n. n < 4294967295) (ap (λ (v : ModelsView). occurrence_found c.args.id v.series) (sym c.self.view_is) ∙ ap occurrence_in_series there.found) c.requires.below

pub exchange-requires-clause-before : goal.exchange-requires-clause-before
exchange-requires-clause-before c =
    let there = is_at c.args.id c.in-Some.at c.index_mut-one.result.now c.self.inside.series.items c.args.self.now.series c.index_of.result c.index_of.ensures (sym (ap (λ (v : ModelsView). v.series) c.self.view_is)) c.in-Some.is c.index_mut-one.ensures.value in
    holds_before c.args.id c.in-Some.at c.index_mut-one.result.now c.self.inside.series.items c.self.inside.upcoming c.date_ahead-before.result there c.self.invariant.2 c.date_ahead-before.ensures

pub exchange-requires-clause-room : goal.exchange-requires-clause-room
exchange-requires-clause-room c =
    let there = is_at c.args.id c.in-Some.at c.index_mut-one.result.now c.self.inside.series.items c.args.self.now.series c.index_of.result c.index_of.ensures (sym (ap (λ (v : ModelsView). v.series) c.self.view_is)) c.in-Some.is c.index_mut-one.ensures.value in
    room_for_exchange c.args.id c.in-Some.at c.index_mut-one.result.now c.step.new.self c.self.inside.series.items c.self.inside.upcoming c.date_ahead-before.result c.date_ahead-after.result there c.self.invariant.2 c.date_ahead-before.ensures c.date_ahead-after.ensures

pub invariant_of-self : goal.invariant_of-self
invariant_of-self c =
    let there = is_at c.args.id c.in-Some.at c.index_mut-one.result.now c.self.inside.series.items c.args.self.now.series c.index_of.result c.index_of.ensures (sym (ap (λ (v : ModelsView). v.series) c.self.view_is)) c.in-Some.is c.index_mut-one.ensures.value in
    let same = ap (λ (s : Series). s.row.id) c.step.ensures ∙ found_id c.args.id c.index_mut-one.result.now c.self.inside.series.items there.found in (
      once_set c.args.id c.in-Some.at c.index_mut-one.result.now c.step.new.self c.self.inside.series.items there same c.self.invariant.0,
      subst (HasIndices c.self.inside.indices.entries) (sym (ids_set c.args.id c.in-Some.at c.index_mut-one.result.now c.step.new.self c.self.inside.series.items there same)) c.self.invariant.1,
      ahead_set c.args.id c.in-Some.at c.index_mut-one.result.now c.step.new.self c.self.inside.series.items c.self.inside.upcoming c.exchange.new.self c.date_ahead-before.result c.date_ahead-after.result there same c.self.invariant.2 c.date_ahead-before.ensures c.date_ahead-after.ensures c.exchange.ensures.days c.exchange.ensures.length c.exchange.ensures.room,
    )

pub returns-in-Some-clause-holds : goal.returns-in-Some-clause-holds
returns-in-Some-clause-holds c entries entry holds makes =
    let there = is_at c.args.id c.in-Some.at c.index_mut-one.result.now c.self.inside.series.items c.args.self.now.series c.index_of.result c.index_of.ensures (sym (ap (λ (v : ModelsView). v.series) c.self.view_is)) c.in-Some.is c.index_mut-one.ensures.value in
    let held = subst (λ (v : ModelsView). Represents v entries) (sym c.self.view_is) holds in
    holds_stepped _ _ entries entry c.args.id c.in-Some.at c.index_mut-one.result.now held there makes (ap (set c.self.inside.series.items c.in-Some.at) c.step.ensures)

pub returns-in_default-clause-holds : goal.returns-in_default-clause-holds
returns-in_default-clause-holds c entries entry holds makes =
    let none = none_found c.args.id c.self.inside.series.items c.args.self.now.series c.index_of.result c.index_of.ensures (sym (ap (λ (v : ModelsView). v.series) c.self.view_is)) c.in_default.is in
    let e : false ≡ true = ap (λ found. is_some (option_map (λ (o : Series). o.row) found)) (sym none) ∙ ap (λ (v : ModelsView). is_some (row_found c.args.id v.series)) c.self.view_is ∙ c.requires.there in
    cc
