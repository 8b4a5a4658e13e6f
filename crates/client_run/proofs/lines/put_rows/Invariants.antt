use Rattle.std.proofs.Common.{◌≡◌, ◌++◌, length}
use Rattle.std.specs.List.{flat_map, AllByRecursion}
use Rattle.client_store.specs.RowForm.{all_seen}
use Rattle.client_saved.specs.Bounds.{IsSoundRow}
use Rattle.client_run.specs.Lines.{row_line}
use Rattle.client_run.proofs.lines.put_rows.Given as goal

abbrev pub invariant-loop-left : goal.invariant-loop-left
invariant-loop-left l = record {
  sound : AllByRecursion IsSoundRow (all_seen l.left);
  bytes : l.fn.out.items ++ flat_map row_line (all_seen l.fn.rows) ≡ l.out.items ++ flat_map row_line (all_seen l.left);
}

abbrev pub decreases-loop-left : goal.decreases-loop-left
decreases-loop-left l = length l.left
