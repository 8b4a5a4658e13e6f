use Rattle.std.proofs.lemmas.Result.{err_from_is_err_and}
use Rattle.bank_session.proofs.TurnLemmas.{turn_stopped, whole_fits}
use Rattle.bank_session.proofs.turn.run_turn.Goals as goal

pub size-requires : goal.size-requires
size-requires g c = whole_fits c.next_frame.new.ahead c.in-Ok-Frame.frame (rw c.in-Ok-Frame.field-0-is at c.in-Ok-Frame.ensures.next)

pub returns-in_err-answer_frame-in-Ok-Frame-clause-turn : goal.returns-in_err-answer_frame-in-Ok-Frame-clause-turn
returns-in_err-answer_frame-in-Ok-Frame-clause-turn g c =
    let p = err_from_is_err_and c.from_residual.result c.from_residual.ensures.1 in
    rw (p.1, p.2) (turn_stopped c.args.at c.next_moment-moment.result c.args.desk.now _ _ _ c.in_err-answer_frame-in-Ok-Frame.field-0.0 c.next_moment-moment.ensures.moments (c.in_err-answer_frame-in-Ok-Frame.ensures.turn _ _ _ _ _ _ c.in-Ok-Frame.ensures.kept))

pub returns-in_ok-answer_frame-in-Ok-Frame-clause-turn : goal.returns-in_ok-answer_frame-in-Ok-Frame-clause-turn
returns-in_ok-answer_frame-in-Ok-Frame-clause-turn g c = record {
  moment = c.next_moment-moment.result;
  moments = c.next_moment-moment.ensures.moments;
  happened = rw c.size.ensures (c.in_ok-answer_frame-in-Ok-Frame.ensures.turn _ _ _ _ _ _ c.in-Ok-Frame.ensures.kept);
}
