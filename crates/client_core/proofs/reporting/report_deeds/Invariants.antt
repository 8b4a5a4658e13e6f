use Rattle.std.proofs.Common.{◌≡◌, ◌++◌, length, map}
use Rattle.client_core.specs.Accepting.{done_line}
use Rattle.client_core.proofs.reporting.report_deeds.Given as goal

abbrev pub invariant-loop-left : goal.invariant-loop-left
invariant-loop-left l = l.fn.lines ++ map done_line l.fn.replies ≡ l.lines ++ map done_line l.left

abbrev pub decreases-loop-left : goal.decreases-loop-left
decreases-loop-left l = length l.left
