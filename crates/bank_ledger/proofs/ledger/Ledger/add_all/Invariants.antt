use Rattle.std.proofs.Common.{◌≡◌, ◌≤◌, ◌++◌, length, take, drop}
use Rattle.std.specs.Vec.Iter.{into_iter_items, into_iter_len}
use Rattle.bank_ledger.proofs.ledger.Ledger.add_all.Given as goal

abbrev pub invariant-loop-row_change : goal.invariant-loop-row_change
invariant-loop-row_change l = record {
  items : l.yielded ++ into_iter_items l.row_change-iterator ≡ into_iter_items l.initial.row_change-iterator;
  count : into_iter_len l.row_change-iterator ≡ length (into_iter_items l.row_change-iterator);
  rest : into_iter_items l.rest ≡ drop (length l.yielded) l.fn.entries.items;
  window : l.self.window ≡ l.fn.self.window;
  state : l.self.state ≡ record l.fn.self.state { entries = l.fn.self.state.entries ++ take (length l.yielded) l.fn.entries.items };
  entries : length (into_iter_items l.row_change-iterator) ≤ l.self.room.entries;
  transfers : length (into_iter_items l.row_change-iterator) ≤ l.self.room.transfers;
  models : length (into_iter_items l.row_change-iterator) ≤ l.self.room.models;
  pairs : l.self.room.pairs ≡ l.fn.self.room.pairs;
  files : l.self.room.files ≡ l.fn.self.room.files;
}
