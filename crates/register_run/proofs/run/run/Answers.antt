use Rattle.std.proofs.Common.{Err, ap}
use Rattle.std.proofs.lemmas.Result.{err_from_is_err_and}
use Rattle.register_run.proofs.Ends.{unopened, unanswered, closed}
use Rattle.register_run.proofs.Faults.{rose_from}
use Rattle.register_run.proofs.run.run.Goals as goal

pub returns-in_err-register : goal.returns-in_err-register
returns-in_err-register g c =
    let p = err_from_is_err_and c.from_residual.result c.from_residual.ensures.1 in
    rw (p.1, p.2) (unopened _ _ _ _ _ _ _ _ c.in_err-register.field-0.0 c.in_err-register.ensures.finds c.in_err-register.ensures.stays
    (λ same. c.in_err-register.ensures.faults.cause (ap Err same)))

pub returns-in_err-answer_frames : goal.returns-in_err-answer_frames
returns-in_err-answer_frames g c =
    let p = err_from_is_err_and c.from_residual-in_err-answer_frames.result c.from_residual-in_err-answer_frames.ensures.1 in
    rw (p.1, p.2) (unanswered (g.A.Source.left c.args.input.now) (g.W.Sink.held c.args.out.now) (g.S.StoreKeeper.saved c.args.store.now) (g.S.StoreKeeper.saved c.open_register.new.store)
    (g.A.Source.left c.answer_frames.new.input) (g.W.Sink.held c.answer_frames.new.out) (g.A.Source.faults c.args.input.now) (g.S.StoreKeeper.faults c.args.store.now)
    (g.S.StoreKeeper.faults c.open_register.new.store) (g.W.Sink.faults c.args.out.now) (g.A.Source.faults c.answer_frames.new.input) (g.W.Sink.faults c.answer_frames.new.out)
    c.in_ok-register.register c.answer_frames.new.register c.in_err-answer_frames.field-0.0 c.in_ok-register.ensures.finds c.in_ok-register.ensures.stays
    c.in_err-answer_frames.ensures.answers (λ same. c.in_err-answer_frames.ensures.reads.cause (ap Err same)) (λ same. c.in_err-answer_frames.ensures.writes.cause (ap Err same)))

pub returns : goal.returns
returns g c =
    closed (g.A.Source.left c.args.input.now) (g.W.Sink.held c.args.out.now) (g.S.StoreKeeper.saved c.args.store.now) (g.S.StoreKeeper.saved c.open_register.new.store)
    (g.A.Source.left c.answer_frames.new.input) (g.W.Sink.held c.answer_frames.new.out) (g.S.StoreKeeper.saved c.close_register.new.store) (g.W.Sink.held c.close_register.new.out)
    (g.A.Source.faults c.args.input.now) (g.S.StoreKeeper.faults c.args.store.now) (g.W.Sink.faults c.args.out.now) (g.A.Source.faults c.answer_frames.new.input)
    (g.S.StoreKeeper.faults c.open_register.new.store) (g.S.StoreKeeper.faults c.close_register.new.store) (g.W.Sink.faults c.answer_frames.new.out) (g.W.Sink.faults c.close_register.new.out)
    c.in_ok-register.register c.answer_frames.new.register c.close_register.result c.in_ok-register.ensures.finds c.in_ok-register.ensures.stays
    c.in_ok-answer_frames.ensures.answers c.close_register.ensures.closes
    (λ e. rose_from _ _ _ c.in_ok-register.ensures.faults.later (c.close_register.ensures.store.cause e))
    (λ e. rose_from _ _ _ c.in_ok-answer_frames.ensures.writes.later (c.close_register.ensures.out.cause e))
