use Rattle.std.proofs.Common.{◌≡◌, ◌-◌, ◌*◌, ◌≤◌, false, IsSome}
use Rattle.std.specs.Io.KnownBytes.{prepend_known}
use Rattle.bank_session.specs.Turns.{turn_view}
use Rattle.bank_session.proofs.BetweenTurns.{BetweenTurns}
use Rattle.bank_session.proofs.run.answer_frames.Given as goal

-- the run comes after so many turns, in which so many bytes are read
abbrev pub invariant-loop-turns : goal.invariant-loop-turns
invariant-loop-turns g l = record {
  present : BetweenTurns l.fn.desk.setup l.fn.desk.state l.at
      (turn_view (g.B.Source.left l.fn.input) (g.B.Source.faults l.fn.input) (g.W.Sink.held l.fn.out) (g.W.Sink.faults l.fn.out) (g.K.Keeper.records l.fn.keeper) (g.K.Keeper.faults l.fn.keeper) (g.C.Clock.shown l.fn.clock))
      l.turns l.offset l.desk
      (turn_view (prepend_known l.ahead (g.B.Source.left l.input)) (g.B.Source.faults l.input) (g.W.Sink.held l.out) (g.W.Sink.faults l.out) (g.K.Keeper.records l.keeper) (g.K.Keeper.faults l.keeper) (g.C.Clock.shown l.clock));
  few : l.turns ≤ 1000000;
  small : l.offset ≤ 262156 * l.turns;
  settled : g.K.Keeper.unsettled l.keeper ≡ false;
  still : IsSome l.at → l.clock ≡ l.fn.clock;
}

abbrev pub decreases-loop-turns : goal.decreases-loop-turns
decreases-loop-turns g l = 1000000 - l.turns
