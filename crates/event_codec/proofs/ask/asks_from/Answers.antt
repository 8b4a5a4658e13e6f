use Rattle.std.proofs.Common.{false}
use Rattle.std.proofs.lemmas.Result.{err_from_is_err_and}
use Rattle.event_codec.specs.AskReading.{asks_from}
use Rattle.event_codec.proofs.Loops.{asks_go_on, asks_end, asks_done}
use Rattle.event_codec.proofs.ask.asks_from.Goals as goal

pub returns-in_err-ask-clause-gives : goal.returns-in_err-ask-clause-gives
returns-in_err-ask-clause-gives c =
    let p = err_from_is_err_and c.from_residual.result c.from_residual.ensures.1 in
    rw (p.1, p.2) (asks_end c.in_err-ask.field-0.0 c.loop.asks c.args.count c.loop.counter c.loop.is_after_mail c.args.rec.now c.loop.next (asks_from c.args.count false c.args.rec.now c.args.at) c.loop-test.true c.in_err-ask.ensures.gives c.loop.invariant.read)

pub loop-preserved : goal.loop-preserved
loop-preserved c = record {
  within = c.in_ok-ask.ensures.within;
  read = rw (c.in_ok-push.ensures.ok, c.is_mail-is_after_mail.ensures) (asks_go_on c.loop.asks c.args.count c.loop.counter c.loop.is_after_mail c.args.rec.now c.loop.next c.in_ok-ask.ask c.in_ok-ask.suffix (asks_from c.args.count false c.args.rec.now c.args.at) c.loop-test.true c.in_ok-ask.ensures.gives c.loop.invariant.read);
}

pub returns-clause-gives : goal.returns-clause-gives
returns-clause-gives c = asks_done c.loop.asks c.args.count c.loop.counter c.loop.is_after_mail c.args.rec.now c.loop.next (asks_from c.args.count false c.args.rec.now c.args.at) c.loop-test.false c.loop.invariant.read
