use Rattle.std.proofs.Common.{arith, ◌≡◌, ◌∙◌, refl}
use Rattle.std.proofs.lemmas.Result.{err_from_is_err_and}
use Rattle.bank_session.proofs.RunLemmas.{holds_first, next_turn, frame_is_small, stopped_in_turn, stopped_at_frame, finished, ended_after, stopped_at_once}
use Rattle.bank_session.proofs.run.answer_frames.Goals as goal

pub returns-in_err-ahead-clause-ends : goal.returns-in_err-ahead-clause-ends
returns-in_err-ahead-clause-ends g c left left' faults faults' =
    let p = err_from_is_err_and c.from_residual.result c.from_residual.ensures.1 in
    rw (p.1, p.2) (stopped_at_once c.args.at c.args.desk.now _ _ (holds_first c.args.at c.args.desk.now _ _ _ _ _ _ _))

pub loop-turns-init : goal.loop-turns-init
loop-turns-init g c = record {
  present = rw c.in_ok-ahead.ensures (holds_first c.args.at c.args.desk.now _ _ _ _ _ _ _);
  few = omega arith;
  small = omega arith;
  settled = c.requires.settled;
  still = λ fixed. refl;
}

pub returns-in_err-size-clause-ends : goal.returns-in_err-size-clause-ends
returns-in_err-size-clause-ends g c left left' faults faults' =
    let p = err_from_is_err_and c.from_residual-in_err-size.result c.from_residual-in_err-size.ensures.1 in
    rw (p.1, p.2) (stopped_in_turn c.args.desk.now.setup c.args.desk.now.state c.args.at _ _ c.loop-turns.turns c.loop-turns.offset c.loop-turns.desk _ _ _ c.loop-turns.invariant.present c.loop-turns-test.true c.in_err-size.ensures.turn)

pub overflow_add-offset : goal.overflow_add-offset
overflow_add-offset g c =
    let made = rw c.in-Answered.is at c.in_ok-size.ensures.turn in
    omega (arith, frame_is_small c.args.at _ _ _ _ c.in-Answered.size made, c.loop-turns.invariant.small, c.loop-turns-test.true)

pub returns-in-NoFrame-clause-ends : goal.returns-in-NoFrame-clause-ends
returns-in-NoFrame-clause-ends g c left left' faults faults' =
    let none = rw c.in-NoFrame.is at c.in_ok-size.ensures.turn in
    stopped_at_frame c.args.desk.now.setup c.args.desk.now.state c.args.at _ _ c.loop-turns.turns c.loop-turns.offset c.loop-turns.desk _ _ c.loop-turns.invariant.present c.loop-turns.invariant.few none.0 none.1

pub returns-in-AtEnd-clause-ends : goal.returns-in-AtEnd-clause-ends
returns-in-AtEnd-clause-ends g c left left' faults faults' =
    let none = rw c.in-AtEnd.is at c.in_ok-size.ensures.turn in
    finished c.args.desk.now.setup c.args.desk.now.state c.args.at _ _ c.loop-turns.turns c.loop-turns.offset c.loop-turns.desk _ _ c.loop-turns.invariant.present c.loop-turns.invariant.few none.0 none.1

pub loop-turns-preserved : goal.loop-turns-preserved
loop-turns-preserved g c =
    let made = rw c.in-Answered.is at c.in_ok-size.ensures.turn in
    record {
      present = next_turn c.args.desk.now.setup c.args.desk.now.state c.args.at _ _ _ c.loop-turns.turns c.loop-turns.offset c.loop-turns.desk c.run_turn.new.desk c.in-Answered.size c.loop-turns.invariant.present made c.run_turn.ensures.reads c.run_turn.ensures.writes c.run_turn.ensures.keeps;
      few = omega (arith, c.loop-turns-test.true);
      small = omega (arith, frame_is_small c.args.at _ _ _ _ c.in-Answered.size made, c.loop-turns.invariant.small);
      settled = c.in_ok-size.ensures.settled (λ e. cc);
      still = λ fixed. c.run_turn.ensures.still fixed ∙ c.loop-turns.invariant.still fixed;
    }

pub returns-clause-ends : goal.returns-clause-ends
returns-clause-ends g c left left' faults faults' =
    let full : c.loop-turns.turns ≡ 1000000 = omega (arith, c.loop-turns-test.false, c.loop-turns.invariant.few) in
    ended_after c.args.desk.now.setup c.args.desk.now.state c.args.at _ _ c.loop-turns.turns c.loop-turns.offset c.loop-turns.desk _ _ _ c.end_of_input.result c.loop-turns.invariant.present full c.end_of_input.ensures.end
