use Rattle.std.proofs.Common.{◌≡◌, ◌++◌}
use Rattle.std.specs.Vec.Iter.{into_iter_items}
use Rattle.ofx_world.specs.World.{HaveSaved}
use Rattle.ofx_world.proofs.parts.customers_of.Given as goal

-- those before have saved what they know
abbrev pub invariant-loop-client : goal.invariant-loop-client
invariant-loop-client l = record {
  items : l.yielded ++ into_iter_items l.client-iterator ≡ into_iter_items l.initial.client-iterator;
  saved : HaveSaved l.yielded l.customers.items;
}
