use Rattle.std.proofs.Common.{◌≡◌, ◌+◌, take, map}
use Rattle.postgres_model.specs.Engine.{numbered}
use Rattle.postgres_model.proofs.rows.rows_of.Given as goal

-- the rows so far are those of the first records
pub record SoFar (is number : Type 0) : Type 0 where
  pub rows : is
  pub next : number

abbrev pub invariant-loop-bytes : goal.invariant-loop-bytes
invariant-loop-bytes l = SoFar (l.rows.items ≡ numbered l.first (take l.bytes-index (map (λ r. r.now) l.group))) (l.number ≡ l.first + l.bytes-index)
