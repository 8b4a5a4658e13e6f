-- All records before the gate were read.
use Rattle.std.proofs.Common.{◌-◌, ◌+◌, ◌≡◌, ◌≤◌, Some}
use Rattle.ofx_ports.specs.Faults.{CountsFaults}
use Rattle.disk_keeper.specs.Disk.{History, shown}
use Rattle.disk_keeper.specs.Reading.{Walked}
use Rattle.disk_keeper.proofs.reading.find_end.Given as goal

abbrev pub invariant-loop-gate : goal.invariant-loop-gate
invariant-loop-gate g l = record {
  history : g.D.Disk.history l.disk ≡ g.D.Disk.history l.fn.disk;
  extent : g.D.Disk.extent l.disk ≡ g.D.Disk.extent l.fn.disk;
  faults : g.D.Disk.faults l.fn.disk ≤ g.D.Disk.faults l.disk;
  size : l.size ≡ g.D.Disk.extent l.fn.disk;
  few : l.gate.records + 8 ≤ l.gate.offset;
  within : l.gate.offset ≤ l.size;
  known : (h : History) → g.D.Disk.history l.fn.disk ≡ Some h → Walked l.gate (shown h);
}

abbrev pub decreases-loop-gate : goal.decreases-loop-gate
decreases-loop-gate g l = l.size - l.gate.offset
