use Rattle.std.proofs.Common.{List, length, ◌<◌, arith, ◌≡◌, ◌++◌, ◌∷◌, [], sym, subst, ◌∙◌, ap, eqb, set, false}
use Rattle.std.proofs.lemmas.List.{map-append, length-map}
use Rattle.std.specs.List.{position}
use Rattle.bank_recur.specs.Ahead.{IsAhead}
use Rattle.bank_recur.specs.ModelsView.{Series, ModelsView, Represents, IsOnce, HasIndices, ids_of}
use Rattle.bank_recur.proofs.RepresentsLemmas.{is_at, once_set, ids_set, indices_pushed, index_by_id, none_found, once_pushed, begins_set, begins_pushed, holds_set, holds_pushed}
use Rattle.bank_recur.proofs.AheadLemmas.{ahead_pushed, ahead_set, at_most_one, none_more, room_for_exchange, room_left, holds_before, holds_none}
use Rattle.bank_recur.proofs.models.Models.put.Goals as goal

pub exchange-requires-clause-before : goal.exchange-requires-clause-before
exchange-requires-clause-before c =
    let there = is_at c.args.row.id c.in-Some.at c.index_mut-one.result.now c.self.inside.series.items c.args.self.now.series c.index_of.result c.index_of.ensures (sym (ap (λ (v : ModelsView). v.series) c.self.view_is)) c.in-Some.is c.index_mut-one.ensures.value in
    holds_before c.args.row.id c.in-Some.at c.index_mut-one.result.now c.self.inside.series.items c.self.inside.upcoming c.date_ahead-before.result there c.self.invariant.2 c.date_ahead-before.ensures

pub exchange-requires-clause-room : goal.exchange-requires-clause-room
exchange-requires-clause-room c =
    let there = is_at c.args.row.id c.in-Some.at c.index_mut-one.result.now c.self.inside.series.items c.args.self.now.series c.index_of.result c.index_of.ensures (sym (ap (λ (v : ModelsView). v.series) c.self.view_is)) c.in-Some.is c.index_mut-one.ensures.value in
    room_for_exchange c.args.row.id c.in-Some.at c.index_mut-one.result.now c.begin_anew.new.self c.self.inside.series.items c.self.inside.upcoming c.date_ahead-before.result c.date_ahead-after.result there c.self.invariant.2 c.date_ahead-before.ensures c.date_ahead-after.ensures

pub invariant_of-self : goal.invariant_of-self
invariant_of-self c =
    let there = is_at c.args.row.id c.in-Some.at c.index_mut-one.result.now c.self.inside.series.items c.args.self.now.series c.index_of.result c.index_of.ensures (sym (ap (λ (v : ModelsView). v.series) c.self.view_is)) c.in-Some.is c.index_mut-one.ensures.value in
    let same = ap (λ (s : Series). s.row.id) c.begin_anew.ensures in (
      once_set c.args.row.id c.in-Some.at c.index_mut-one.result.now c.begin_anew.new.self c.self.inside.series.items there same c.self.invariant.0,
      subst (HasIndices c.self.inside.indices.entries) (sym (ids_set c.args.row.id c.in-Some.at c.index_mut-one.result.now c.begin_anew.new.self c.self.inside.series.items there same)) c.self.invariant.1,
      ahead_set c.args.row.id c.in-Some.at c.index_mut-one.result.now c.begin_anew.new.self c.self.inside.series.items c.self.inside.upcoming c.exchange.new.self c.date_ahead-before.result c.date_ahead-after.result there same c.self.invariant.2 c.date_ahead-before.ensures c.date_ahead-after.ensures c.exchange.ensures.days c.exchange.ensures.length c.exchange.ensures.room,
    )

pub returns-in-Some-clause-holds : goal.returns-in-Some-clause-holds
returns-in-Some-clause-holds c entries entry holds gives =
    let there = is_at c.args.row.id c.in-Some.at c.index_mut-one.result.now c.self.inside.series.items c.args.self.now.series c.index_of.result c.index_of.ensures (sym (ap (λ (v : ModelsView). v.series) c.self.view_is)) c.in-Some.is c.index_mut-one.ensures.value in
    let held = subst (λ (v : ModelsView). Represents v entries) (sym c.self.view_is) holds in
    holds_set _ _ entries entry c.in-Some.at c.index_mut-one.result.now c.args.row held there gives (ap (set c.self.inside.series.items c.in-Some.at) c.begin_anew.ensures)

pub enter-requires-clause-apart : goal.enter-requires-clause-apart
enter-requires-clause-apart c =
    let none = none_found c.args.row.id c.self.inside.series.items c.args.self.now.series c.index_of.result c.index_of.ensures (sym (ap (λ (v : ModelsView). v.series) c.self.view_is)) c.in-None.is in
    holds_none c.args.row.id c.self.inside.series.items c.self.inside.upcoming none c.self.invariant.2

pub enter-requires-clause-room : goal.enter-requires-clause-room
enter-requires-clause-room c =
    let room = room_left _ _ c.self.inside.upcoming.room (length c.self.inside.series.items) (subst (λ (v : ModelsView). 0 < v.room) (sym c.self.view_is) c.requires.room) in
    let few = none_more c.self.inside.series.items c.self.inside.upcoming c.self.invariant.2 in
    let one = at_most_one c.date_ahead-day.result in
    omega (arith, room, few, one)

pub invariant_of-self-in-None : goal.invariant_of-self-in-None
invariant_of-self-in-None c =
    let none = none_found c.args.row.id c.self.inside.series.items c.args.self.now.series c.index_of.result c.index_of.ensures (sym (ap (λ (v : ModelsView). v.series) c.self.view_is)) c.in-None.is in
    let one : Series = record { row = c.args.row; cancelled = false; occurrence = 0 } in
    let room = room_left _ _ c.self.inside.upcoming.room (length c.self.inside.series.items) (subst (λ (v : ModelsView). 0 < v.room) (sym c.self.view_is) c.requires.room) in
    let long = c.self.inside.series.ok.0 in
    let last : c.len-index.result ≡ length (ids_of c.self.inside.series.items) = omega (arith, c.len-index.ensures, long, length-map c.self.inside.series.items (λ (s : Series). s.row.id)) in
    let absent = index_by_id c.args.row.id c.self.inside.series.items ∙ ap (λ (v : ModelsView). position (λ (o : Series). eqb o.row.id c.args.row.id) v.series) c.self.view_is ∙ sym c.index_of.ensures ∙ c.in-None.is in
    let all : c.push_reserved.new.self.items ≡ c.self.inside.series.items ++ one ∷ [] = c.push_reserved.ensures.items ∙ ap (λ (s : Series). c.self.inside.series.items ++ s ∷ []) c.new-one.ensures in (
      subst IsOnce (sym all) (once_pushed one c.self.inside.series.items none c.self.invariant.0),
      subst (HasIndices c.insert-added.new.self.entries) (sym (ap ids_of all ∙ map-append (λ (s : Series). s.row.id) c.self.inside.series.items (one ∷ [])))
          (indices_pushed c.args.row.id c.len-index.result (ids_of c.self.inside.series.items) c.self.inside.indices.entries c.insert-added.new.self.entries
          absent last (λ q. (rw c.unwrap-new.ensures at c.insert-added.ensures.updates).0 q) c.self.invariant.1),
      subst (λ (series : List Series). IsAhead series c.enter.new.self) (sym c.push_reserved.ensures.items) (ahead_pushed c.args.row.id c.new-one.result c.self.inside.series.items c.self.inside.upcoming c.enter.new.self c.date_ahead-day.result none (ap (λ (s : Series). s.row.id) c.new-one.ensures) c.self.invariant.2 c.date_ahead-day.ensures c.enter.ensures.days c.enter.ensures.length c.enter.ensures.room room),
    )

pub returns-in-None-clause-holds : goal.returns-in-None-clause-holds
returns-in-None-clause-holds c entries entry holds gives =
    let none = none_found c.args.row.id c.self.inside.series.items c.args.self.now.series c.index_of.result c.index_of.ensures (sym (ap (λ (v : ModelsView). v.series) c.self.view_is)) c.in-None.is in
    let held = subst (λ (v : ModelsView). Represents v entries) (sym c.self.view_is) holds in
    holds_pushed _ _ entries entry c.args.row held none gives (c.push_reserved.ensures.items ∙ ap (λ (s : Series). c.self.inside.series.items ++ s ∷ []) c.new-one.ensures)

pub returns-in-Some-clause-row : goal.returns-in-Some-clause-row
returns-in-Some-clause-row c =
    let there = is_at c.args.row.id c.in-Some.at c.index_mut-one.result.now c.self.inside.series.items c.args.self.now.series c.index_of.result c.index_of.ensures (sym (ap (λ (v : ModelsView). v.series) c.self.view_is)) c.in-Some.is c.index_mut-one.ensures.value in
    (begins_set c.self.inside.series.items _ c.in-Some.at c.index_mut-one.result.now c.args.row there (ap (set c.self.inside.series.items c.in-Some.at) c.begin_anew.ensures)).0

pub returns-in-Some-clause-occurrence : goal.returns-in-Some-clause-occurrence
returns-in-Some-clause-occurrence c =
    let there = is_at c.args.row.id c.in-Some.at c.index_mut-one.result.now c.self.inside.series.items c.args.self.now.series c.index_of.result c.index_of.ensures (sym (ap (λ (v : ModelsView). v.series) c.self.view_is)) c.in-Some.is c.index_mut-one.ensures.value in
    (begins_set c.self.inside.series.items _ c.in-Some.at c.index_mut-one.result.now c.args.row there (ap (set c.self.inside.series.items c.in-Some.at) c.begin_anew.ensures)).1

pub returns-in-None-clause-row : goal.returns-in-None-clause-row
returns-in-None-clause-row c =
    let none = none_found c.args.row.id c.self.inside.series.items c.args.self.now.series c.index_of.result c.index_of.ensures (sym (ap (λ (v : ModelsView). v.series) c.self.view_is)) c.in-None.is in
    (begins_pushed c.self.inside.series.items _ c.args.row none (c.push_reserved.ensures.items ∙ ap (λ (s : Series). c.self.inside.series.items ++ s ∷ []) c.new-one.ensures)).0

pub returns-in-None-clause-occurrence : goal.returns-in-None-clause-occurrence
returns-in-None-clause-occurrence c =
    let none = none_found c.args.row.id c.self.inside.series.items c.args.self.now.series c.index_of.result c.index_of.ensures (sym (ap (λ (v : ModelsView). v.series) c.self.view_is)) c.in-None.is in
    (begins_pushed c.self.inside.series.items _ c.args.row none (c.push_reserved.ensures.items ∙ ap (λ (s : Series). c.self.inside.series.items ++ s ∷ []) c.new-one.ensures)).1
