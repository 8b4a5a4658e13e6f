use Rattle.std.proofs.lemmas.Result.{err_from_is_err_and}
use Rattle.event_codec.specs.AskReading.{pairs_from}
use Rattle.event_codec.proofs.Loops.{pairs_go_on, pairs_end, pairs_done}
use Rattle.event_codec.proofs.sync.pairs_from.Goals as goal

pub returns-in_err-pair-clause-gives : goal.returns-in_err-pair-clause-gives
returns-in_err-pair-clause-gives c =
    let p = err_from_is_err_and c.from_residual.result c.from_residual.ensures.1 in
    rw (p.1, p.2) (pairs_end c.in_err-pair.field-0.0 c.loop.pairs c.args.count c.loop.counter c.args.family c.args.rec.now c.loop.next (pairs_from c.args.count c.args.family c.args.rec.now c.args.at) c.loop-test.true c.in_err-pair.ensures.gives c.loop.invariant.read)

pub loop-preserved : goal.loop-preserved
loop-preserved c = record {
  within = c.in_ok-pair.ensures.within;
  read = rw c.in_ok-push.ensures.ok (pairs_go_on c.loop.pairs c.args.count c.loop.counter c.args.family c.args.rec.now c.loop.next c.in_ok-pair.pair c.in_ok-pair.suffix (pairs_from c.args.count c.args.family c.args.rec.now c.args.at) c.loop-test.true c.in_ok-pair.ensures.gives c.loop.invariant.read);
}

pub returns-clause-gives : goal.returns-clause-gives
returns-clause-gives c = pairs_done c.loop.pairs c.args.count c.loop.counter c.args.family c.args.rec.now c.loop.next (pairs_from c.args.count c.args.family c.args.rec.now c.args.at) c.loop-test.false c.loop.invariant.read
