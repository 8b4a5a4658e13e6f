use Rattle.std.proofs.Common.{◌≡◌, ◌+◌, ◌≤◌, length}
use Rattle.ofx_types.specs.ValueForm.{decoded}
use Rattle.ofx_tape.proofs.entities.decoded_len.Given as goal

abbrev pub invariant-loop-rest : goal.invariant-loop-rest
invariant-loop-rest l = (l.count + length (decoded l.rest) ≡ length (decoded l.raw)) × (l.count + length l.rest ≤ length l.raw)

abbrev pub decreases-loop-rest : goal.decreases-loop-rest
decreases-loop-rest l = length l.rest
