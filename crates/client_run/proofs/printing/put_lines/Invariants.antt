use Rattle.std.proofs.Common.{◌≡◌, ◌++◌, length}
use Rattle.client_run.specs.Lines.{printed}
use Rattle.client_run.proofs.printing.put_lines.Given as goal

abbrev pub invariant-loop-left : goal.invariant-loop-left
invariant-loop-left l = l.fn.bytes.items ++ printed l.fn.lines ≡ l.bytes.items ++ printed l.left

abbrev pub decreases-loop-left : goal.decreases-loop-left
decreases-loop-left l = length l.left
