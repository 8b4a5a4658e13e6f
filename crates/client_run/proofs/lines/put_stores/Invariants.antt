use Rattle.std.proofs.Common.{◌≡◌, ◌++◌, length}
use Rattle.std.specs.List.{flat_map, AllByRecursion}
use Rattle.client_saved.specs.Bounds.{IsSoundStore}
use Rattle.client_run.specs.Lines.{store_lines}
use Rattle.client_run.proofs.lines.put_stores.Given as goal

abbrev pub invariant-loop-left : goal.invariant-loop-left
invariant-loop-left l = record {
  sound : AllByRecursion IsSoundStore l.left;
  bytes : l.fn.out.items ++ flat_map store_lines l.fn.stores ≡ l.out.items ++ flat_map store_lines l.left;
}

abbrev pub decreases-loop-left : goal.decreases-loop-left
decreases-loop-left l = length l.left
