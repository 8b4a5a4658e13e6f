use Rattle.std.proofs.Common.{◌≡◌, length, drop, refl, arith, rules}
use Rattle.std.proofs.KnownBytes.{Keeps-refl}
use Rattle.std.proofs.lemmas.Result.{err_from_is_err_and}
use Rattle.register_run.specs.declared.stop.Stop.TheVariants as stops
use Rattle.register_run.proofs.Faults.{counts_never, counts_later}
use Rattle.register_run.proofs.FrameLaws.{none_comes, ends_here}
use Rattle.register_run.proofs.TurnLaws.{turn_made, turn_undone, never_reads}
use Rattle.register_run.proofs.answering.run_turn.Goals as goal

pub answer-requires : goal.answer-requires
answer-requires g c = rw c.deref.ensures.value (rw c.in-Ok-Frame.field-0-is at c.in-Ok-Frame.ensures.next)

pub returns-in_err-answer-in-Ok-Frame-clause-turn : goal.returns-in_err-answer-in-Ok-Frame-clause-turn
returns-in_err-answer-in-Ok-Frame-clause-turn g c =
    let p = err_from_is_err_and c.from_residual.result c.from_residual.ensures.1 in
    rw (p.1, p.2) (turn_undone c.args.register.now c.answer.new.register (g.A.Source.left c.args.input.now) (g.A.Source.left c.next_frame.new.source) (g.W.Sink.held c.args.out.now) (g.W.Sink.held c.answer.new.out)
    c.next_frame.new.bytes.items c.deref.result.now c.in-Ok-Frame.head c.in_err-answer-in-Ok-Frame.field-0.0 c.in-Ok-Frame.ensures.kept
    (rw c.in-Ok-Frame.field-0-is at c.in-Ok-Frame.ensures.next) c.deref.ensures.value c.in_err-answer-in-Ok-Frame.ensures.answers)

pub returns-in_err-answer-in-Ok-Frame-clause-reads : goal.returns-in_err-answer-in-Ok-Frame-clause-reads
returns-in_err-answer-in-Ok-Frame-clause-reads g c =
    let p = err_from_is_err_and c.from_residual.result c.from_residual.ensures.1 in
    rw (p.1, p.2) (counts_never _ _ c.in-Ok-Frame.ensures.faults
    (λ failed. never_reads c.args.register.now c.answer.new.register (drop c.in-Ok-Frame.head c.deref.result.now) (g.W.Sink.held c.args.out.now) (g.W.Sink.held c.answer.new.out)
    c.in_err-answer-in-Ok-Frame.field-0.0 c.in_err-answer-in-Ok-Frame.ensures.answers (cc)))

pub returns-in_err-answer-in-Ok-Frame-clause-writes : goal.returns-in_err-answer-in-Ok-Frame-clause-writes
returns-in_err-answer-in-Ok-Frame-clause-writes g c =
    let p = err_from_is_err_and c.from_residual.result c.from_residual.ensures.1 in
    rw (p.1, p.2) (counts_later _ _ _ c.in_err-answer-in-Ok-Frame.field-0.0 stops.WriteFailed _ _ refl refl c.in_err-answer-in-Ok-Frame.ensures.faults (omega arith))

pub returns-in-Ok-Frame-clause-turn : goal.returns-in-Ok-Frame-clause-turn
returns-in-Ok-Frame-clause-turn g c =
    let size : c.len.result ≡ length c.next_frame.new.bytes.items = search rules in
    rw size (turn_made c.args.register.now c.answer.new.register (g.A.Source.left c.args.input.now) (g.A.Source.left c.next_frame.new.source) (g.W.Sink.held c.args.out.now) (g.W.Sink.held c.answer.new.out)
    c.next_frame.new.bytes.items c.deref.result.now c.in-Ok-Frame.head c.in-Ok-Frame.ensures.kept (rw c.in-Ok-Frame.field-0-is at c.in-Ok-Frame.ensures.next) c.deref.ensures.value
    c.in_ok-answer-in-Ok-Frame.ensures.answers)

pub returns-in-Ok-End-clause-turn : goal.returns-in-Ok-End-clause-turn
returns-in-Ok-End-clause-turn g c =
    let next = rw c.in-Ok-End.field-0-is at c.in-Ok-End.ensures.next in
    (record { stays = refl; printed = Keeps-refl _ }, ends_here _ _ _ c.in-Ok-End.ensures.kept next.0, next.1)

pub returns-in-Ok-NoFrame-clause-turn : goal.returns-in-Ok-NoFrame-clause-turn
returns-in-Ok-NoFrame-clause-turn g c =
    let next = rw c.in-Ok-NoFrame.field-0-is at c.in-Ok-NoFrame.ensures.next in
    (record { stays = refl; printed = Keeps-refl _ }, none_comes _ _ _ c.in-Ok-NoFrame.ensures.kept next)
