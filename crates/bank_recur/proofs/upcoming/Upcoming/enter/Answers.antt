use Rattle.std.proofs.Common.{cond, eqb, insert, Some, sym, subst, ap, ◌∙◌}
use Rattle.std.specs.Result.{is_ok}
use Rattle.bank_recur.specs.Upcoming.{UpcomingView, IsInOrder, IsIndex, day_in}
use Rattle.bank_recur.specs.declared.spawn.Spawn.{Spawn}
use Rattle.bank_recur.proofs.UpcomingLemmas.{order_insert, day_insert}
use Rattle.bank_recur.proofs.upcoming.Upcoming.enter.Goals as goal

pub invariant_of-self : goal.invariant_of-self
invariant_of-self c =
    let next : Spawn = record { day = c.in-Some.day; id = c.args.id } in
    let spawns = c.self.inside.spawns.items in
    let items = c.insert-entered.ensures.items ∙ ap (λ entered. cond (is_ok entered) (insert spawns c.index_of-at.result next) spawns) c.unwrap-room.ensures in
    let here = subst (λ l. IsIndex next l c.index_of-at.result) c.deref.ensures.value c.index_of-at.ensures in
    let none = ap (λ (v : UpcomingView). day_in c.args.id v.spawns) c.self.view_is ∙ c.requires.apart in
    subst IsInOrder (sym items) (order_insert next spawns c.index_of-at.result c.self.invariant here none)

pub returns-in-Some-clause-days : goal.returns-in-Some-clause-days
returns-in-Some-clause-days c other =
    let next : Spawn = record { day = c.in-Some.day; id = c.args.id } in
    let spawns = c.self.inside.spawns.items in
    let items = c.insert-entered.ensures.items ∙ ap (λ entered. cond (is_ok entered) (insert spawns c.index_of-at.result next) spawns) c.unwrap-room.ensures in
    let none = ap (λ (v : UpcomingView). day_in c.args.id v.spawns) c.self.view_is ∙ c.requires.apart in
    ap (day_in other) items
    ∙ day_insert next spawns c.index_of-at.result other none
    ∙ ap (λ (v : UpcomingView). cond (eqb c.args.id other) (Some c.in-Some.day) (day_in other v.spawns)) c.self.view_is
    ∙ ap (λ day. cond (eqb c.args.id other) day (day_in other c.args.self.now.spawns)) (sym c.in-Some.is)
