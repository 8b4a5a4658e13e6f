use Rattle.std.proofs.Common.{drop}
use Rattle.register_run.proofs.TurnLaws.{line_printed, whole_rest}
use Rattle.register_run.proofs.answering.answer.Goals as goal

pub returns-in-Ok-clause-answers : goal.returns-in-Ok-clause-answers
returns-in-Ok-clause-answers g c =
    line_printed c.args.register.now c.import_file.new.register (drop c.args.head c.args.frame.now) c.in-Ok.line.items _ _ c.print.result (rw (whole_rest c.args.frame.now c.args.head) at c.in-Ok.ensures)
    (rw c.deref.ensures.value at c.print.ensures.prints)
