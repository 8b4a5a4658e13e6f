use Rattle.std.proofs.lemmas.Result.{err_from_is_err_and}
use Rattle.bank_session.proofs.Answered.{run_reported, no_work, work_prefix}
use Rattle.bank_session.proofs.lines.due_line.Goals as goal

pub returns-clause-line : goal.returns-clause-line
returns-clause-line g c =
    run_reported c.args.at c.args.desk.now c.due.new.self _ _ c.in_ok-count.count _ c.in_ok-count.ensures.run c.due_work_line.ensures

pub returns-in_err-room-clause-prefix : goal.returns-in_err-room-clause-prefix
returns-in_err-room-clause-prefix g c =
    let p = err_from_is_err_and c.from_residual.result c.from_residual.ensures.1 in
    rw p.1 (no_work c.args.at c.args.desk.now _)

pub returns-in_err-count-clause-prefix : goal.returns-in_err-count-clause-prefix
returns-in_err-count-clause-prefix g c =
    let p = err_from_is_err_and c.from_residual-in_err-count.result c.from_residual-in_err-count.ensures.1 in
    rw p.1 (work_prefix c.args.at c.args.desk.now c.due.new.self _ _ _ _ c.due.ensures.setup c.in_err-count.ensures.prefix)
