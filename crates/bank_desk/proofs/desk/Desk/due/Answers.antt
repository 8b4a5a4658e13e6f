use Rattle.std.proofs.Common.{arith}
use Rattle.std.proofs.lemmas.Result.{err_from_is_err_and}
use Rattle.bank_desk.proofs.DueEvents.{one_more_event, none_left, full_run, work_stopped}
use Rattle.bank_desk.proofs.desk.Desk.due.Goals as goal

pub returns-then-not-branch-clause-run : goal.returns-then-not-branch-clause-run
returns-then-not-branch-clause-run g c =
    none_left c.args.at c.args.self.now c.loop-count.self c.run_next.new.self _ _ _ c.loop-count.count c.loop-count.invariant.happened c.loop-count.invariant.few (rw c.if-not-branch.true at c.in_ok-run_next.ensures.taken)

pub loop-count-preserved : goal.loop-count-preserved
loop-count-preserved g c = record {
  happened = one_more_event c.args.at c.args.self.now c.loop-count.self c.run_next.new.self _ _ _ c.loop-count.count c.loop-count.invariant.happened c.run_next.ensures.setup (rw c.if-not-branch.false at c.in_ok-run_next.ensures.taken);
  few = omega (arith, c.loop-count-test.true);
  settled = c.in_ok-run_next.ensures.settled (λ same. cc);
  later = omega (arith, c.loop-count.invariant.later, c.run_next.ensures.faults.later);
}

pub returns-clause-run : goal.returns-clause-run
returns-clause-run g c = full_run c.args.at c.args.self.now c.loop-count.self _ _ c.loop-count.count c.loop-count.invariant.happened (omega (arith, c.loop-count-test.false, c.loop-count.invariant.few))

pub returns-in_err-run_next-clause-prefix : goal.returns-in_err-run_next-clause-prefix
returns-in_err-run_next-clause-prefix g c =
    let p = err_from_is_err_and c.from_residual.result c.from_residual.ensures.1 in
    rw (p.1, p.2) (work_stopped c.args.at c.args.self.now c.loop-count.self c.run_next.new.self _ _ _ _ c.loop-count.count _ c.loop-count.invariant.happened c.loop-count-test.true c.run_next.ensures.setup c.in_err-run_next.ensures.undone)
