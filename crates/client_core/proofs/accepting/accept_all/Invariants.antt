use Rattle.std.proofs.Common.{◌≡◌, ◌++◌, length}
use Rattle.client_core.specs.Accepting.{stores_after, lines_along}
use Rattle.client_core.proofs.accepting.accept_all.Given as goal

abbrev pub invariant-loop-left : goal.invariant-loop-left
invariant-loop-left l = record {
  stores : stores_after l.fn.asks l.fn.replies l.fn.stores.items ≡ stores_after l.left l.reported l.stores.items;
  lines : l.fn.lines ++ lines_along l.fn.asks l.fn.replies l.fn.stores.items ≡ l.lines ++ lines_along l.left l.reported l.stores.items;
}

abbrev pub decreases-loop-left : goal.decreases-loop-left
decreases-loop-left l = length l.left
