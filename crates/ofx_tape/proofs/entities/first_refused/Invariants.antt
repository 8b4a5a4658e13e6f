use Rattle.std.proofs.Common.{◌≡◌, ◌+◌, ◌≤◌, length, position, option_map}
use Rattle.ofx_types.specs.TextRules.{is_refused_in_text}
use Rattle.ofx_types.specs.ValueForm.{decoded}
use Rattle.ofx_tape.proofs.entities.first_refused.Given as goal

abbrev pub invariant-loop-rest : goal.invariant-loop-rest
invariant-loop-rest l =
    (option_map (λ i. l.count + i) (position is_refused_in_text (decoded l.rest)) ≡ position is_refused_in_text (decoded l.raw))
    × (l.count + length l.rest ≤ length l.raw)

abbrev pub decreases-loop-rest : goal.decreases-loop-rest
decreases-loop-rest l = length l.rest
