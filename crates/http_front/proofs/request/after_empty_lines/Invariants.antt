use Rattle.std.proofs.Common.{length}
use Rattle.http_front.specs.Targets.{HoldsAfterBlank}
use Rattle.http_front.proofs.request.after_empty_lines.Given as goal

abbrev pub invariant-loop-tail : goal.invariant-loop-tail
invariant-loop-tail l = HoldsAfterBlank l.buf l.rest

abbrev pub decreases-loop-tail : goal.decreases-loop-tail
decreases-loop-tail l = length l.rest
