use Rattle.std.proofs.Common.{◌≡◌, length, bytes_eq}
use Rattle.ofx_types.specs.ValueForm.{decoded}
use Rattle.ofx_tape.proofs.entities.decodes_to.Given as goal

abbrev pub invariant-loop-rest : goal.invariant-loop-rest
invariant-loop-rest l = bytes_eq (decoded l.rest) l.wanted ≡ bytes_eq (decoded l.fn.raw) l.fn.text

abbrev pub decreases-loop-rest : goal.decreases-loop-rest
decreases-loop-rest l = length l.rest
