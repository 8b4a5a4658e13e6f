use Rattle.std.proofs.Common.{None}
use Rattle.std.proofs.lemmas.Result.{err_from_is_err_and}
use Rattle.file_register.specs.Reading.{lines_from}
use Rattle.file_register.proofs.Loops.{lines_go_on, lines_end, lines_done}
use Rattle.file_register.proofs.saving.lines_from.Goals as goal

pub returns-in_err-line-clause-gives : goal.returns-in_err-line-clause-gives
returns-in_err-line-clause-gives c =
    let p = err_from_is_err_and c.from_residual.result c.from_residual.ensures.1 in
    let here = rw (c.last.ensures.value, c.items.ensures) at c.in_err-line.ensures.gives in
    rw (p.1, p.2) (lines_end c.in_err-line.field-0.0 c.loop.lines c.args.count c.loop.counter c.args.text.now c.loop.next (lines_from c.args.count None c.args.text.now c.args.at) c.loop-test.true here c.loop.invariant.read)

pub loop-preserved : goal.loop-preserved
loop-preserved c =
    let here = rw (c.last.ensures.value, c.items.ensures) at c.in_ok-line.ensures.gives in
    record {
      within = c.in_ok-line.ensures.within;
      read = rw c.in_ok-push.ensures.ok (lines_go_on c.loop.lines c.args.count c.loop.counter c.args.text.now c.loop.next c.in_ok-line.line c.in_ok-line.rest (lines_from c.args.count None c.args.text.now c.args.at) c.loop-test.true here c.loop.invariant.read);
    }

pub returns-clause-gives : goal.returns-clause-gives
returns-clause-gives c = lines_done c.loop.lines c.args.count c.loop.counter c.args.text.now c.loop.next (lines_from c.args.count None c.args.text.now c.args.at) c.loop-test.false c.loop.invariant.read
