-- What each step from gate to gate finds.
use Rattle.std.proofs.Common.{◌<◌, ◌≤◌, ◌+◌, ◌-◌, ◌∙◌, length, refl, sym, subst, arith, Some}
use Rattle.disk_keeper.specs.Disk.{shown}
use Rattle.disk_keeper.specs.Bounds.{StepsWithin}
use Rattle.disk_keeper.specs.Reading.{IsStep}
use Rattle.disk_keeper.proofs.DiskLemmas.{size_reported}
use Rattle.disk_keeper.proofs.Walks.{walked_next, walked_cut, walked_past, walked_first, walked_last}
use Rattle.disk_keeper.proofs.reading.find_end.Goals as goal

pub loop-gate-init : goal.loop-gate-init
loop-gate-init g c = record {
  history = c.has_mark.ensures.history;
  extent = c.has_mark.ensures.extent;
  faults = c.has_mark.ensures.faults.later;
  size = c.size-size.ensures.size ∙ c.has_mark.ensures.extent;
  few = omega arith;
  within = omega (arith, c.size-size.ensures.size, c.in_ok-has_mark.ensures.long c.if-not-branch.false);
  known = λ h is. walked_first _ (shown h) refl refl (sym (c.in_ok-has_mark.ensures.known h is) ∙ c.if-not-branch.false);
}

pub loop-gate-preserved : goal.loop-gate-preserved
loop-gate-preserved g c =
    let i = c.loop-gate.invariant in
    let w = subst (StepsWithin c.loop-gate.gate (g.D.Disk.extent c.pass.new.disk)) c.in-Next.is c.in_ok-next.ensures.within in record {
      history = c.pass.ensures.history ∙ i.history;
      extent = c.pass.ensures.extent ∙ i.extent;
      faults = omega (arith, i.faults, c.pass.ensures.faults.later);
      size = i.size;
      few = w.2;
      within = omega (arith, w.0, c.pass.ensures.extent, i.extent, i.size);
      known = λ h is.
          let step = subst (IsStep c.loop-gate.gate (shown h)) c.in-Next.is (c.in_ok-next.ensures.known h (i.history ∙ is)) in
          let long = size_reported _ h _ (c.has_mark.ensures.history ∙ is) c.size-size.ensures.known in
          let within : c.loop-gate.gate.offset < length (shown h) = omega (arith, long, c.size-size.ensures.size, c.loop-gate-test.true) in
          walked_next c.loop-gate.gate (shown h) (i.known h is) within (c.in-Next.next.offset - c.loop-gate.gate.offset - 9) step.0 step.3 c.in-Next.next step.1 (omega (arith, step.2));
    }

pub returns-in-Last-clause-known : goal.returns-in-Last-clause-known
returns-in-Last-clause-known g c h is =
    let i = c.loop-gate.invariant in
    let walked = i.known h is in
    let step = subst (IsStep c.loop-gate.gate (shown h)) c.in-Last.is (c.in_ok-next.ensures.known h (i.history ∙ is)) in
    let long = size_reported _ h _ (c.has_mark.ensures.history ∙ is) c.size-size.ensures.known in
    let within : c.loop-gate.gate.offset < length (shown h) = omega (arith, long, c.size-size.ensures.size, c.loop-gate-test.true) in
    (walked.records, walked_last c.loop-gate.gate (shown h) walked within step, walked.count)

pub returns-in-Cut-clause-known : goal.returns-in-Cut-clause-known
returns-in-Cut-clause-known g c h is =
    let i = c.loop-gate.invariant in
    let step = subst (IsStep c.loop-gate.gate (shown h)) c.in-Cut.is (c.in_ok-next.ensures.known h (i.history ∙ is)) in
    let long = size_reported _ h _ (c.has_mark.ensures.history ∙ is) c.size-size.ensures.known in
    let within : c.loop-gate.gate.offset < length (shown h) = omega (arith, long, c.size-size.ensures.size, c.loop-gate-test.true) in
    walked_cut c.loop-gate.gate (shown h) (i.known h is) within step.0 step.1

pub returns-clause-known : goal.returns-clause-known
returns-clause-known g c h is =
    let long = size_reported _ h _ (c.has_mark.ensures.history ∙ is) c.size-size.ensures.known in
    walked_past c.loop-gate.gate (shown h) (c.loop-gate.invariant.known h is) (omega (arith, long, c.size-size.ensures.size, c.loop-gate-test.false))
