use Rattle.std.proofs.Common.{◌≤◌, ◌*◌, ◌-◌}
use Rattle.register_run.proofs.TurnLaws.{Current}
use Rattle.register_run.proofs.answering.answer_frames.Given as goal

-- so many frames are answered, which have so many bytes
abbrev pub invariant-loop-turns : goal.invariant-loop-turns
invariant-loop-turns g l = record {
  current : Current l.fn.register (g.A.Source.left l.fn.input) (g.W.Sink.held l.fn.out) l.turns l.offset l.register (g.A.Source.left l.input) (g.W.Sink.held l.out);
  few : l.turns ≤ 1000000;
  small : l.offset ≤ 67108878 * l.turns;
  reads : g.A.Source.faults l.fn.input ≤ g.A.Source.faults l.input;
  writes : g.W.Sink.faults l.fn.out ≤ g.W.Sink.faults l.out;
}

abbrev pub decreases-loop-turns : goal.decreases-loop-turns
decreases-loop-turns g l = 1000000 - l.turns
