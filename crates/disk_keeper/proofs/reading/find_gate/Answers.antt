use Rattle.std.proofs.Common.{◌∙◌, ◌+◌, refl, arith}
use Rattle.disk_keeper.specs.Disk.{shown}
use Rattle.disk_keeper.proofs.Passes.{passed_on}
use Rattle.disk_keeper.proofs.reading.find_gate.Goals as goal

pub loop-gate-preserved : goal.loop-gate-preserved
loop-gate-preserved g c =
    let i = c.loop-gate.invariant in
    let size = c.in_ok-size in record {
      history = c.whole_size.ensures.history ∙ i.history;
      extent = c.whole_size.ensures.extent ∙ i.extent;
      faults = omega (arith, i.faults, c.whole_size.ensures.faults.later);
      within = size.ensures.within.0;
      before = c.loop-gate-test.true;
      known = λ h rs is holds from number.
          passed_on rs c.loop-gate.gate (shown h) holds (i.known h rs is holds from number) (omega (arith, c.loop-gate-test.true, number)) size.size
          (λ within. size.ensures.known h (i.history ∙ is) within) _ refl refl;
    }
