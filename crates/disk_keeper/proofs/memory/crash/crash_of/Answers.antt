-- One change more, for what is shown and for what a crash left.
use Rattle.std.proofs.Common.{◌∙◌, ◌+◌, sym, subst, take}
use Rattle.std.specs.Prelude.{reverse}
use Rattle.disk_keeper.specs.Disk.{MayLeave}
use Rattle.disk_keeper.proofs.CrashLemmas.{reverse_more}
use Rattle.disk_keeper.proofs.memory.crash.crash_of.Goals as goal

pub loop-change-preserved : goal.loop-change-preserved
loop-change-preserved c =
    let i = c.loop-change.invariant in
    let found = c.args.found.now in
    let before = reverse (take c.loop-change.change-index c.args.changes.now) in
    let crash = c.deref-in-loop-change.ensures.value in
    let shown = c.deref-in-loop-change-2.ensures.value in
    let more = reverse_more c.args.changes.now c.loop-change.change-index c.change-item.result c.loop-change-test.true c.change-item.is in record {
      shown = rw more (c.in_ok-shown-2.ensures found before (shown ∙ i.shown));
      crash = rw more (c.in_ok-crash-2.ensures.may found before (c.deref.ensures.value ∙ i.shown) (subst (MayLeave found before) (sym crash) i.crash));
      chosen = rw more (c.in_ok-crash-2.ensures.chosen found before c.args.choice (c.deref.ensures.value ∙ i.shown) (crash ∙ i.chosen) i.left);
      left = rw more (c.choice_after-left.ensures found before i.left);
    }
