use Rattle.std.proofs.Common.{sym, subst, ◌∙◌, ap, set}
use Rattle.bank_recur.specs.ModelsView.{Series, ModelsView, Represents, HasIndices}
use Rattle.bank_recur.proofs.RepresentsLemmas.{is_at, found_id, once_set, ids_set, none_found, holds_cancelled, none_cancelled}
use Rattle.bank_recur.proofs.AheadLemmas.{ahead_set, room_for_exchange, holds_before}
use Rattle.bank_recur.proofs.models.Models.cancel.Goals as goal

pub exchange-requires-clause-before : goal.exchange-requires-clause-before
exchange-requires-clause-before c =
    let there = is_at c.args.id c.in-Some.at c.index_mut-one.result.now c.self.inside.series.items c.args.self.now.series c.index_of.result c.index_of.ensures (sym (ap (λ (v : ModelsView). v.series) c.self.view_is)) c.in-Some.is c.index_mut-one.ensures.value in
    holds_before c.args.id c.in-Some.at c.index_mut-one.result.now c.self.inside.series.items c.self.inside.upcoming c.date_ahead-before.result there c.self.invariant.2 c.date_ahead-before.ensures

pub exchange-requires-clause-room : goal.exchange-requires-clause-room
exchange-requires-clause-room c =
    let there = is_at c.args.id c.in-Some.at c.index_mut-one.result.now c.self.inside.series.items c.args.self.now.series c.index_of.result c.index_of.ensures (sym (ap (λ (v : ModelsView). v.series) c.self.view_is)) c.in-Some.is c.index_mut-one.ensures.value in
    room_for_exchange c.args.id c.in-Some.at c.index_mut-one.result.now c.cancel.new.self c.self.inside.series.items c.self.inside.upcoming c.date_ahead-before.result c.date_ahead-after.result there c.self.invariant.2 c.date_ahead-before.ensures c.date_ahead-after.ensures

pub invariant_of-self : goal.invariant_of-self
invariant_of-self c =
    let there = is_at c.args.id c.in-Some.at c.index_mut-one.result.now c.self.inside.series.items c.args.self.now.series c.index_of.result c.index_of.ensures (sym (ap (λ (v : ModelsView). v.series) c.self.view_is)) c.in-Some.is c.index_mut-one.ensures.value in
    let same = ap (λ (s : Series). s.row.id) c.cancel.ensures ∙ found_id c.args.id c.index_mut-one.result.now c.self.inside.series.items there.found in (
      once_set c.args.id c.in-Some.at c.index_mut-one.result.now c.cancel.new.self c.self.inside.series.items there same c.self.invariant.0,
      subst (HasIndices c.self.inside.indices.entries) (sym (ids_set c.args.id c.in-Some.at c.index_mut-one.result.now c.cancel.new.self c.self.inside.series.items there same)) c.self.invariant.1,
      ahead_set c.args.id c.in-Some.at c.index_mut-one.result.now c.cancel.new.self c.self.inside.series.items c.self.inside.upcoming c.exchange.new.self c.date_ahead-before.result c.date_ahead-after.result there same c.self.invariant.2 c.date_ahead-before.ensures c.date_ahead-after.ensures c.exchange.ensures.days c.exchange.ensures.length c.exchange.ensures.room,
    )

pub returns-in-Some-clause-holds : goal.returns-in-Some-clause-holds
returns-in-Some-clause-holds c entries entry holds cancels =
    let there = is_at c.args.id c.in-Some.at c.index_mut-one.result.now c.self.inside.series.items c.args.self.now.series c.index_of.result c.index_of.ensures (sym (ap (λ (v : ModelsView). v.series) c.self.view_is)) c.in-Some.is c.index_mut-one.ensures.value in
    let held = subst (λ (v : ModelsView). Represents v entries) (sym c.self.view_is) holds in
    holds_cancelled _ _ entries entry c.args.id c.in-Some.at c.index_mut-one.result.now held there cancels (ap (set c.self.inside.series.items c.in-Some.at) c.cancel.ensures)

pub returns-in_default-clause-holds : goal.returns-in_default-clause-holds
returns-in_default-clause-holds c entries entry holds cancels =
    let none = none_found c.args.id c.self.inside.series.items c.args.self.now.series c.index_of.result c.index_of.ensures (sym (ap (λ (v : ModelsView). v.series) c.self.view_is)) c.in_default.is in
    let held = subst (λ (v : ModelsView). Represents v entries) (sym c.self.view_is) holds in
    absurd (none_cancelled _ entries entry.change c.args.id held none cancels)
