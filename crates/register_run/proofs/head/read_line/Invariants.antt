use Rattle.std.proofs.Common.{◌≡◌, ◌≤◌, ◌-◌, length, vec_len}
use Rattle.std.specs.Io.KnownBytes.{Keeps, prepend_known}
use Rattle.register_run.specs.Heads.{HasNoLineEnd}
use Rattle.register_run.proofs.head.read_line.Given as goal

-- no LF was read so far, and no byte is lost
abbrev pub invariant-loop-source : goal.invariant-loop-source
invariant-loop-source g l = record {
  kept : Keeps (g.A.Source.left l.fn.source) (prepend_known l.bytes.items (g.A.Source.left l.source));
  clean : HasNoLineEnd l.bytes.items;
  short : length l.bytes.items ≤ 14;
  room : length l.byte ≡ 1;
  faults : g.A.Source.faults l.fn.source ≤ g.A.Source.faults l.source;
}

abbrev pub decreases-loop-source : goal.decreases-loop-source
decreases-loop-source g l = 14 - vec_len l.bytes
