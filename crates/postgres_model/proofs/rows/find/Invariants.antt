use Rattle.std.proofs.Common.{◌≡◌, drop}
use Rattle.postgres_model.specs.Engine.{record_at}
use Rattle.postgres_model.proofs.rows.find.Given as goal

abbrev pub invariant-loop-row : goal.invariant-loop-row
invariant-loop-row l = record_at l.number (drop l.row-index l.rows) ≡ record_at l.number l.rows
