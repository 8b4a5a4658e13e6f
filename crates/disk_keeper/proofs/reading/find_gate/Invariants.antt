-- The gate stands between two records.
use Rattle.std.proofs.Common.{◌-◌, ◌≡◌, ◌+◌, ◌<◌, ◌≤◌, ℕ, List, Some, length}
use Rattle.disk_keeper.specs.Disk.{History, shown}
use Rattle.disk_keeper.specs.Passing.{Holds, Passed}
use Rattle.disk_keeper.proofs.reading.find_gate.Given as goal

abbrev pub invariant-loop-gate : goal.invariant-loop-gate
invariant-loop-gate g l = record {
  history : g.D.Disk.history l.disk ≡ g.D.Disk.history l.fn.disk;
  extent : g.D.Disk.extent l.disk ≡ g.D.Disk.extent l.fn.disk;
  faults : g.D.Disk.faults l.fn.disk ≤ g.D.Disk.faults l.disk;
  within : l.gate.offset ≤ g.D.Disk.extent l.disk;
  before : l.gate.records < l.number;
  known : (h : History) (rs : List (List ℕ)) → g.D.Disk.history l.fn.disk ≡ Some h → Holds rs (shown h) → Passed rs l.fn.from → l.number ≤ length rs → Passed rs l.gate;
}

abbrev pub decreases-loop-gate : goal.decreases-loop-gate
decreases-loop-gate g l = l.number - l.gate.records
