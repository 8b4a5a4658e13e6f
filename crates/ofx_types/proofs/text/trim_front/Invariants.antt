use Rattle.std.proofs.Common.{◌≡◌, length}
use Rattle.ofx_types.specs.TextRules.{trim_start}
use Rattle.ofx_types.proofs.text.trim_front.Given as goal

-- what is trimmed so far makes no difference
abbrev pub invariant-loop-rest : goal.invariant-loop-rest
invariant-loop-rest l = trim_start l.rest ≡ trim_start l.bytes

abbrev pub decreases-loop-rest : goal.decreases-loop-rest
decreases-loop-rest l = length l.rest
