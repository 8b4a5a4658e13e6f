use Rattle.std.proofs.Common.{◌≡◌, ◌≤◌, ◌++◌, length, take}
use Rattle.ofx_types.specs.ValueForm.{decoded}
use Rattle.ofx_tape.proofs.entities.decode_within.Given as goal

abbrev pub invariant-loop-rest : goal.invariant-loop-rest
invariant-loop-rest l = (take l.count l.room ++ decoded l.rest ≡ decoded l.raw) × (l.count ≤ 64) × (length l.room ≡ 64)

abbrev pub decreases-loop-rest : goal.decreases-loop-rest
decreases-loop-rest l = length l.rest
