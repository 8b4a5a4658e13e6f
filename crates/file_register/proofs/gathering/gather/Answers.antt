use Rattle.std.proofs.lemmas.Result.{err_from_is_err_and}
use Rattle.file_register.proofs.GatheringLaws.{gathered_none}
use Rattle.file_register.proofs.Taking.{gathers_on, stops_here}
use Rattle.file_register.proofs.gathering.gather.Goals as goal

pub loop-line-init : goal.loop-line-init
loop-line-init c = rw c.new-fresh.ensures.empty (gathered_none c.args.old.now c.requires)

pub returns-in_err-take_line-clause-stopped : goal.returns-in_err-take_line-clause-stopped
returns-in_err-take_line-clause-stopped c =
    let p = err_from_is_err_and c.from_residual-in_err-take_line.result c.from_residual-in_err-take_line.ensures.1 in
    rw (p.1, p.2) (stops_here c.args.old.now c.args.lines.now c.loop-line.fresh.keys c.loop-line.line-index _ c.line-item.result c.in_ok-copy.field-0
    c.in_err-take_line.field-0.0 c.take_line.new.fresh.keys c.loop-line-test.true c.line-item.is c.in_ok-copy.ensures c.loop-line.invariant c.in_err-take_line.ensures)

pub loop-line-preserved : goal.loop-line-preserved
loop-line-preserved c =
    gathers_on c.args.old.now c.args.lines.now c.loop-line.fresh.keys c.loop-line.line-index _ c.line-item.result c.in_ok-copy.field-0 c.take_line.new.fresh.keys
    c.loop-line-test.true c.line-item.is c.in_ok-copy.ensures c.loop-line.invariant c.in_ok-take_line.ensures
