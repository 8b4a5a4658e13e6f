use Rattle.std.proofs.Common.{◌∙◌, refl, arith}
use Rattle.bank_due.proofs.Runs.{begins, done, gone, left}
use Rattle.bank_due.proofs.due.run_due.Goals.{in-Done+else-count-eq-MAX_DUE_EVENTS, in-Gone}
use Rattle.bank_due.proofs.due.run_due.Goals as goal

pub returns-then-count-eq-MAX_DUE_EVENTS-clause-runs : goal.returns-then-count-eq-MAX_DUE_EVENTS-clause-runs
returns-then-count-eq-MAX_DUE_EVENTS-clause-runs g c =
    let setup = g.A.Advancer.setup c.args.advancer.now in
    rw c.id_of.ensures (left setup c.args.at c.loop.count c.in-Done.event _ _ _ (omega (arith, c.if-count-eq-MAX_DUE_EVENTS.true)) c.loop.invariant.so_far
    (rw c.in-Done.is at (rw c.loop.invariant.setup at c.in_ok-event.ensures.advanced)))

pub loop-init : goal.loop-init
loop-init g c = record {
  finite = (tt, tt);
  so_far = begins (g.A.Advancer.setup c.args.advancer.now) c.args.at (g.A.Advancer.knows c.args.advancer.now);
  setup = refl;
  through = refl;
  ready = c.requires.ready;
  few = omega arith;
}

pub loop-preserved : goal.loop-preserved
loop-preserved g c =
    let setup = g.A.Advancer.setup c.args.advancer.now in
    elim c.match-branch-2.branch [
      | in-Done+else-count-eq-MAX_DUE_EVENTS w ↦ rw w.count-is (record {
        finite = (tt, tt);
        so_far = done setup c.args.at c.loop.count w.in-Done.event _ _ _ c.loop.invariant.so_far (rw w.in-Done.is at (rw c.loop.invariant.setup at c.in_ok-event.ensures.advanced));
        setup = c.in_ok-event.ensures.setup ∙ c.loop.invariant.setup;
        through = c.in_ok-event.ensures.through ∙ c.loop.invariant.through;
        ready = c.in_ok-event.ensures.ready;
        few = omega (arith, c.loop.invariant.few, w.if-count-eq-MAX_DUE_EVENTS.false);
      })
      | in-Gone w ↦ rw w.count-is (record {
        finite = (tt, tt);
        so_far = gone setup c.args.at c.loop.count w.in-Gone.field-0 _ _ _ c.loop.invariant.so_far (rw w.in-Gone.is at (rw c.loop.invariant.setup at c.in_ok-event.ensures.advanced));
        setup = c.in_ok-event.ensures.setup ∙ c.loop.invariant.setup;
        through = c.in_ok-event.ensures.through ∙ c.loop.invariant.through;
        ready = c.in_ok-event.ensures.ready;
        few = c.loop.invariant.few;
      })
    ]

pub loop-preserved-after-branch-2-4 : goal.loop-preserved-after-branch-2-4
loop-preserved-after-branch-2-4 g c =
    let setup = g.A.Advancer.setup c.args.advancer.now in
    elim c.match-branch-2.branch [
      | in-Done+else-count-eq-MAX_DUE_EVENTS w ↦ rw w.count-is (record {
        finite = (tt, tt);
        so_far = done setup c.args.at c.loop.count w.in-Done.event _ _ _ c.loop.invariant.so_far (rw w.in-Done.is at (rw c.loop.invariant.setup at c.in_ok-event.ensures.advanced));
        setup = c.in_ok-event.ensures.setup ∙ c.loop.invariant.setup;
        through = c.in_ok-event.ensures.through ∙ c.loop.invariant.through;
        ready = c.in_ok-event.ensures.ready;
        few = omega (arith, c.loop.invariant.few, w.if-count-eq-MAX_DUE_EVENTS.false);
      })
      | in-Gone w ↦ rw w.count-is (record {
        finite = (tt, tt);
        so_far = gone setup c.args.at c.loop.count w.in-Gone.field-0 _ _ _ c.loop.invariant.so_far (rw w.in-Gone.is at (rw c.loop.invariant.setup at c.in_ok-event.ensures.advanced));
        setup = c.in_ok-event.ensures.setup ∙ c.loop.invariant.setup;
        through = c.in_ok-event.ensures.through ∙ c.loop.invariant.through;
        ready = c.in_ok-event.ensures.ready;
        few = c.loop.invariant.few;
      })
    ]

pub loop-preserved-after-branch-2-5 : goal.loop-preserved-after-branch-2-5
loop-preserved-after-branch-2-5 g c =
    let setup = g.A.Advancer.setup c.args.advancer.now in
    elim c.match-branch-2.branch [
      | in-Done+else-count-eq-MAX_DUE_EVENTS w ↦ rw w.count-is (record {
        finite = (tt, tt);
        so_far = done setup c.args.at c.loop.count w.in-Done.event _ _ _ c.loop.invariant.so_far (rw w.in-Done.is at (rw c.loop.invariant.setup at c.in_ok-event.ensures.advanced));
        setup = c.in_ok-event.ensures.setup ∙ c.loop.invariant.setup;
        through = c.in_ok-event.ensures.through ∙ c.loop.invariant.through;
        ready = c.in_ok-event.ensures.ready;
        few = omega (arith, c.loop.invariant.few, w.if-count-eq-MAX_DUE_EVENTS.false);
      })
      | in-Gone w ↦ rw w.count-is (record {
        finite = (tt, tt);
        so_far = gone setup c.args.at c.loop.count w.in-Gone.field-0 _ _ _ c.loop.invariant.so_far (rw w.in-Gone.is at (rw c.loop.invariant.setup at c.in_ok-event.ensures.advanced));
        setup = c.in_ok-event.ensures.setup ∙ c.loop.invariant.setup;
        through = c.in_ok-event.ensures.through ∙ c.loop.invariant.through;
        ready = c.in_ok-event.ensures.ready;
        few = c.loop.invariant.few;
      })
    ]

pub loop-preserved-after-branch-2-6 : goal.loop-preserved-after-branch-2-6
loop-preserved-after-branch-2-6 g c =
    let setup = g.A.Advancer.setup c.args.advancer.now in
    elim c.match-branch-2.branch [
      | in-Done+else-count-eq-MAX_DUE_EVENTS w ↦ rw w.count-is (record {
        finite = (tt, tt);
        so_far = done setup c.args.at c.loop.count w.in-Done.event _ _ _ c.loop.invariant.so_far (rw w.in-Done.is at (rw c.loop.invariant.setup at c.in_ok-event.ensures.advanced));
        setup = c.in_ok-event.ensures.setup ∙ c.loop.invariant.setup;
        through = c.in_ok-event.ensures.through ∙ c.loop.invariant.through;
        ready = c.in_ok-event.ensures.ready;
        few = omega (arith, c.loop.invariant.few, w.if-count-eq-MAX_DUE_EVENTS.false);
      })
      | in-Gone w ↦ rw w.count-is (record {
        finite = (tt, tt);
        so_far = gone setup c.args.at c.loop.count w.in-Gone.field-0 _ _ _ c.loop.invariant.so_far (rw w.in-Gone.is at (rw c.loop.invariant.setup at c.in_ok-event.ensures.advanced));
        setup = c.in_ok-event.ensures.setup ∙ c.loop.invariant.setup;
        through = c.in_ok-event.ensures.through ∙ c.loop.invariant.through;
        ready = c.in_ok-event.ensures.ready;
        few = c.loop.invariant.few;
      })
    ]
