use Rattle.std.proofs.Common.{◌≡◌, drop}
use Rattle.client_store.specs.RowForm.{all_seen, bound_after, IsRising}
use Rattle.client_store.proofs.row_index.are_rising.Given as goal

-- all rows are in order where those that are left are, after the ids that are passed
abbrev pub invariant-loop-row : goal.invariant-loop-row
invariant-loop-row l = record {
  all : IsRising l.family (bound_after 0 l.before) (all_seen (drop l.row-index l.rows)) → IsRising l.family 0 (all_seen l.rows);
  left : IsRising l.family 0 (all_seen l.rows) → IsRising l.family (bound_after 0 l.before) (all_seen (drop l.row-index l.rows));
}
