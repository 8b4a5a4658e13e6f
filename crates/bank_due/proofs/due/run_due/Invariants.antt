use Rattle.std.proofs.Common.{◌≡◌, ◌<◌}
use Rattle.bank_due.proofs.Runs.{SoFar}
use Rattle.bank_due.proofs.due.run_due.Given as goal

-- so many events have happened
abbrev pub invariant-loop : goal.invariant-loop
invariant-loop g l = record {
  finite : (goal.iterator-loop g).can_next l.iterator' × (goal.iterator-loop g).is_finite l.iterator';
  so_far : SoFar (g.A.Advancer.setup l.fn.advancer) l.at l.count (g.A.Advancer.knows l.fn.advancer) (g.A.Advancer.knows l.advancer);
  setup : g.A.Advancer.setup l.advancer ≡ g.A.Advancer.setup l.fn.advancer;
  through : g.A.Advancer.through l.advancer ≡ g.A.Advancer.through l.fn.advancer;
  ready : g.A.Advancer.ready l.advancer;
  few : l.count < 100000;
}
