use Rattle.std.proofs.Common.{◌≡◌, ◌≤◌, arith, refl}
use Rattle.std.proofs.lemmas.Result.{err_from_is_err_and}
use Rattle.register_run.specs.declared.stop.Stop.TheVariants as stops
use Rattle.register_run.proofs.Faults.{counts_later}
use Rattle.register_run.proofs.TurnLaws.{holds_first, next_turn, frame_is_small, stopped_in_turn, stopped_at_frame, finished, ended_after}
use Rattle.register_run.proofs.answering.answer_frames.Goals as goal

pub loop-turns-init : goal.loop-turns-init
loop-turns-init g c = record {
  current = holds_first c.args.register.now _ _;
  few = omega arith;
  small = omega arith;
  reads = omega arith;
  writes = omega arith;
}

pub returns-in_err-size-clause-answers : goal.returns-in_err-size-clause-answers
returns-in_err-size-clause-answers g c =
    let p = err_from_is_err_and c.from_residual.result c.from_residual.ensures.1 in
    rw (p.1, p.2) (stopped_in_turn c.args.register.now (g.A.Source.left c.args.input.now) (g.W.Sink.held c.args.out.now) c.loop-turns.turns c.loop-turns.offset c.loop-turns.register c.run_turn.new.register
    (g.A.Source.left c.loop-turns.input) (g.W.Sink.held c.loop-turns.out) (g.A.Source.left c.run_turn.new.input) (g.W.Sink.held c.run_turn.new.out) c.in_err-size.field-0.0 c.loop-turns.invariant.current c.loop-turns.invariant.few c.in_err-size.ensures.turn)

pub returns-in_err-size-clause-reads : goal.returns-in_err-size-clause-reads
returns-in_err-size-clause-reads g c =
    let p = err_from_is_err_and c.from_residual.result c.from_residual.ensures.1 in
    rw (p.1, p.2) (counts_later _ _ _ c.in_err-size.field-0.0 stops.ReadFailed _ _ refl refl c.in_err-size.ensures.reads c.loop-turns.invariant.reads)

pub returns-in_err-size-clause-writes : goal.returns-in_err-size-clause-writes
returns-in_err-size-clause-writes g c =
    let p = err_from_is_err_and c.from_residual.result c.from_residual.ensures.1 in
    rw (p.1, p.2) (counts_later _ _ _ c.in_err-size.field-0.0 stops.WriteFailed _ _ refl refl c.in_err-size.ensures.writes c.loop-turns.invariant.writes)

pub overflow_add-offset : goal.overflow_add-offset
overflow_add-offset g c =
    let made = rw c.in-Answered.is at c.in_ok-size.ensures.turn in
    omega (arith, frame_is_small _ _ _ _ _ _ c.in-Answered.size made, c.loop-turns.invariant.small, c.loop-turns-test.true)

pub returns-in-NoFrame-clause-answers : goal.returns-in-NoFrame-clause-answers
returns-in-NoFrame-clause-answers g c =
    let none = rw c.in-NoFrame.is at c.in_ok-size.ensures.turn in
    stopped_at_frame c.args.register.now _ _ c.loop-turns.turns c.loop-turns.offset c.loop-turns.register _ _ _ c.loop-turns.invariant.current c.loop-turns.invariant.few none.0.printed none.1

pub returns-in-AtEnd-clause-answers : goal.returns-in-AtEnd-clause-answers
returns-in-AtEnd-clause-answers g c =
    let none = rw c.in-AtEnd.is at c.in_ok-size.ensures.turn in
    finished c.args.register.now _ _ c.loop-turns.turns c.loop-turns.offset c.loop-turns.register _ _ _ _ _ c.loop-turns.invariant.current c.loop-turns.invariant.few none.0 none.1 none.2

pub loop-turns-preserved : goal.loop-turns-preserved
loop-turns-preserved g c =
    let made = rw c.in-Answered.is at c.in_ok-size.ensures.turn in
    record {
      current = next_turn c.args.register.now _ _ c.loop-turns.turns c.loop-turns.offset c.loop-turns.register _ _ c.run_turn.new.register _ _ c.in-Answered.size c.loop-turns.invariant.current made;
      few = omega (arith, c.loop-turns-test.true);
      small = omega (arith, frame_is_small _ _ _ _ _ _ c.in-Answered.size made, c.loop-turns.invariant.small);
      reads = omega (arith, c.loop-turns.invariant.reads, c.in_ok-size.ensures.reads.later);
      writes = omega (arith, c.loop-turns.invariant.writes, c.in_ok-size.ensures.writes.later);
    }

pub returns-clause-answers : goal.returns-clause-answers
returns-clause-answers g c =
    let full : c.loop-turns.turns ≡ 1000000 = omega (arith, c.loop-turns-test.false, c.loop-turns.invariant.few) in
    ended_after c.args.register.now _ _ c.loop-turns.turns c.loop-turns.offset c.loop-turns.register _ _ _ c.end_of_input.result c.loop-turns.invariant.current full c.end_of_input.ensures.ends
