use Rattle.std.proofs.Common.{◌≡◌, ◌++◌, length}
use Rattle.client_run.specs.Lines.{news_lines}
use Rattle.client_run.proofs.checking.report_all.Given as goal

abbrev pub invariant-loop-left : goal.invariant-loop-left
invariant-loop-left l = l.fn.lines ++ news_lines l.fn.asks l.fn.replies ≡ l.lines ++ news_lines l.left l.reported

abbrev pub decreases-loop-left : goal.decreases-loop-left
decreases-loop-left l = length l.left
