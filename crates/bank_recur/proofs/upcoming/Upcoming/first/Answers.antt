use Rattle.std.proofs.Common.{sym, subst, ap, ◌∙◌}
use Rattle.bank_recur.specs.Upcoming.{UpcomingView, IsInOrder}
use Rattle.bank_recur.proofs.UpcomingLemmas.{first_of}
use Rattle.bank_recur.proofs.upcoming.Upcoming.first.Goals as goal

pub returns-in-Some : goal.returns-in-Some
returns-in-Some c =
    let found = c.in-Some.ensures in
    first_of c.in-Some.first.now c.deref.result.now c.args.self.now.spawns found.value (subst IsInOrder (sym c.deref.ensures.value) c.self.invariant) (c.deref.ensures.value ∙ ap (λ (v : UpcomingView). v.spawns) c.self.view_is)
