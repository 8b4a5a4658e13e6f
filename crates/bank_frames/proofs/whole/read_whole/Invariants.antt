use Rattle.std.proofs.Common.{◌-◌, ◌≤◌, length}
use Rattle.std.specs.Io.KnownBytes.{Keeps, prepend_known}
use Rattle.bank_frames.proofs.whole.read_whole.Given as goal

-- no byte is lost, and the count of faults hasn't fallen
abbrev pub invariant-loop-ahead : goal.invariant-loop-ahead
invariant-loop-ahead g l = record {
  kept : Keeps (prepend_known l.fn.ahead (g.S.Source.left l.fn.source)) (prepend_known l.ahead (g.S.Source.left l.source));
  faults : g.S.Source.faults l.fn.source ≤ g.S.Source.faults l.source;
}

-- each turn fills more of the room
abbrev pub decreases-loop-ahead : goal.decreases-loop-ahead
decreases-loop-ahead g l = 524288 - length l.ahead
