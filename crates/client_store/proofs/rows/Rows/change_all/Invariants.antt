use Rattle.std.proofs.Common.{◌≡◌, ◌≤◌, ◌++◌, length, fold}
use Rattle.std.specs.Vec.Iter.{into_iter_items, into_iter_len}
use Rattle.bank_model.specs.Stores.{changed}
use Rattle.client_store.proofs.rows.Rows.change_all.Given as goal

abbrev pub invariant-loop-change : goal.invariant-loop-change
invariant-loop-change l = record {
  items : l.yielded ++ into_iter_items l.change-iterator ≡ into_iter_items l.initial.change-iterator;
  count : into_iter_len l.change-iterator ≡ length (into_iter_items l.change-iterator);
  family : l.self.family ≡ l.fn.self.family;
  rows : l.self.rows ≡ fold (changed l.fn.self.family) l.fn.self.rows l.yielded;
  room : length (into_iter_items l.change-iterator) ≤ l.self.room;
}
