use Rattle.std.proofs.Common.{◌-◌, ◌≤◌, length}
use Rattle.std.specs.Io.KnownBytes.{Keeps, prepend_known}
use Rattle.bank_frames.proofs.frames.next_frame.Given as goal

-- no byte is lost, and the count of faults hasn't fallen
abbrev pub invariant-loop-frame : goal.invariant-loop-frame
invariant-loop-frame g l = record {
  kept : Keeps (prepend_known l.fn.ahead (g.S.Source.left l.fn.source)) (prepend_known l.ahead (g.S.Source.left l.source));
  faults : g.S.Source.faults l.fn.source ≤ g.S.Source.faults l.source;
}

-- each turn fills more of the room
abbrev pub decreases-loop-frame : goal.decreases-loop-frame
decreases-loop-frame g l = 524288 - length l.ahead
