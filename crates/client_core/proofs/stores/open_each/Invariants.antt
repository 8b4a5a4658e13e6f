use Rattle.std.proofs.Common.{◌≡◌, ◌++◌, List, length, take}
use Rattle.client_core.specs.Objects.{with_stores}
use Rattle.client_core.proofs.stores.open_each.Given as goal

-- the stores that were there before stand in front
abbrev pub invariant-loop-left : goal.invariant-loop-left
invariant-loop-left l = record {
  same : with_stores l.fn.objects l.fn.stores.items ≡ with_stores l.left l.stores.items;
  kept : take (length l.fn.stores.items) l.stores.items ≡ l.fn.stores.items;
}

abbrev pub decreases-loop-left : goal.decreases-loop-left
decreases-loop-left l = length l.left
