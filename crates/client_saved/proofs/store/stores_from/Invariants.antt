use Rattle.std.proofs.Common.{◌≡◌, ◌-◌, ◌≤◌, [], length}
use Rattle.event_codec.proofs.Loops.{with_prefix}
use Rattle.client_saved.specs.Reading.{stores_from}
use Rattle.client_saved.proofs.store.stores_from.Given as goal

abbrev pub invariant-loop : goal.invariant-loop
invariant-loop l = record {
  within : l.next ≤ length l.text;
  read : with_prefix l.stores (stores_from (l.count - l.counter) l.stores l.text l.next) ≡ stores_from l.count [] l.text l.at;
}
