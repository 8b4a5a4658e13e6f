use Rattle.std.proofs.Common.{◌≡◌, ◌≤◌, ◌-◌, ◌++◌, List, ℕ, length, vec_len}
use Rattle.std.specs.Io.KnownBytes.{Keeps, prepend_known}
use Rattle.register_run.proofs.Bodies.{Grows}
use Rattle.register_run.proofs.frames.read_up_to.Given as goal

-- so much was read so far, and no byte is lost
abbrev pub invariant-loop-bytes : goal.invariant-loop-bytes
invariant-loop-bytes g l = record {
  grown : Grows l.fn.bytes.items (g.A.Source.left l.fn.source) l.bytes.items (g.A.Source.left l.source);
  short : length l.bytes.items ≤ l.whole;
  room : length l.chunk ≡ 65536;
  faults : g.A.Source.faults l.fn.source ≤ g.A.Source.faults l.source;
}

abbrev pub decreases-loop-bytes : goal.decreases-loop-bytes
decreases-loop-bytes g l = l.whole - vec_len l.bytes
