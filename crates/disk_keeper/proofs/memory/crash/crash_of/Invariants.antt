-- What a read shows, what a crash left, and what is left of the number that chooses, after the changes so far.
use Rattle.std.proofs.Common.{◌≡◌, take}
use Rattle.std.specs.Prelude.{reverse}
use Rattle.disk_keeper.specs.Disk.{image, MayLeave}
use Rattle.disk_keeper.specs.Memory.{crashed}
use Rattle.disk_keeper.proofs.memory.crash.crash_of.Given as goal

abbrev pub invariant-loop-change : goal.invariant-loop-change
invariant-loop-change l = record {
  shown : l.shown.items ≡ image l.found (reverse (take l.change-index l.changes));
  crash : MayLeave l.found (reverse (take l.change-index l.changes)) l.crash.items;
  chosen : l.crash.items ≡ (crashed l.choice l.found (reverse (take l.change-index l.changes))).0;
  left : l.left ≡ (crashed l.choice l.found (reverse (take l.change-index l.changes))).1;
}
