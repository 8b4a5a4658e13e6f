use Rattle.std.proofs.Common.{◌≡◌, ◌-◌, ◌≤◌, length}
use Rattle.event_codec.proofs.Loops.{with_prefix}
use Rattle.client_store.specs.RowForm.{all_seen, bound_after}
use Rattle.client_saved.specs.Reading.{rows_from}
use Rattle.client_saved.proofs.store.rows_from.Given as goal

abbrev pub invariant-loop : goal.invariant-loop
invariant-loop l = record {
  within : l.next ≤ length l.text;
  read : with_prefix (all_seen l.rows) (rows_from (l.count - l.counter) l.family (bound_after 0 l.before) l.text l.next) ≡ rows_from l.count l.family 0 l.text l.at;
}
