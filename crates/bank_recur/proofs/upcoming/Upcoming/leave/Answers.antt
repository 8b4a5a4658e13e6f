use Rattle.std.proofs.Common.{cond, eqb, length, None, sym, subst, ap, ◌∙◌, arith}
use Rattle.bank_recur.specs.Upcoming.{UpcomingView, Precedes, IsInOrder, day_in}
use Rattle.bank_recur.proofs.InOrderLemmas.{in_order_remove}
use Rattle.bank_recur.proofs.UpcomingLemmas.{there_in, day_remove}
use Rattle.bank_recur.proofs.upcoming.Upcoming.leave.Goals as goal

pub remove-gone-requires : goal.remove-gone-requires
remove-gone-requires c =
    let there = there_in (record { day = c.in-Some.day; id = c.args.id }) c.self.inside.spawns.items c.deref.result.now c.args.self.now.spawns c.index_of-at.result c.args.day c.self.invariant c.index_of-at.ensures c.deref.ensures.value (ap (λ (v : UpcomingView). v.spawns) c.self.view_is) c.requires c.in-Some.is in
    omega (arith, there.within, ap length c.deref.ensures.value, c.deref.ensures.len)

pub invariant_of-self : goal.invariant_of-self
invariant_of-self c = subst IsInOrder (sym c.remove-gone.ensures.items) (in_order_remove Precedes c.self.inside.spawns.items c.index_of-at.result c.self.invariant)

pub returns-in-Some-clause-days : goal.returns-in-Some-clause-days
returns-in-Some-clause-days c other =
    let there = there_in (record { day = c.in-Some.day; id = c.args.id }) c.self.inside.spawns.items c.deref.result.now c.args.self.now.spawns c.index_of-at.result c.args.day c.self.invariant c.index_of-at.ensures c.deref.ensures.value (ap (λ (v : UpcomingView). v.spawns) c.self.view_is) c.requires c.in-Some.is in
    ap (day_in other) c.remove-gone.ensures.items
    ∙ day_remove (record { day = c.in-Some.day; id = c.args.id }) c.self.inside.spawns.items c.index_of-at.result other c.self.invariant there
    ∙ ap (λ (v : UpcomingView). cond (eqb c.args.id other) None (day_in other v.spawns)) c.self.view_is
