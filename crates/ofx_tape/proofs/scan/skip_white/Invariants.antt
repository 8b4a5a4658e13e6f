use Rattle.std.proofs.Common.{◌≡◌, ◌≤◌, length}
use Rattle.ofx_types.specs.TextRules.{trim_start}
use Rattle.ofx_tape.proofs.scan.skip_white.Given as goal

-- what is left to trim has the same end
abbrev pub invariant-loop-rest : goal.invariant-loop-rest
invariant-loop-rest l = (trim_start l.rest ≡ trim_start l.bytes) × (length l.rest ≤ length l.bytes)

abbrev pub decreases-loop-rest : goal.decreases-loop-rest
decreases-loop-rest l = length l.rest
