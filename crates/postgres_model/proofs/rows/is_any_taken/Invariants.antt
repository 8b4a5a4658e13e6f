use Rattle.std.proofs.Common.{◌≡◌, ◌-◌, drop, map}
use Rattle.postgres_model.specs.Engine.{is_taken}
use Rattle.postgres_model.proofs.rows.is_any_taken.Given as goal

abbrev pub invariant-loop-number : goal.invariant-loop-number
invariant-loop-number l = is_taken l.number (drop (l.number - l.first) (map (λ r. r.now) l.group)) l.rows ≡ is_taken l.first (map (λ r. r.now) l.group) l.rows
