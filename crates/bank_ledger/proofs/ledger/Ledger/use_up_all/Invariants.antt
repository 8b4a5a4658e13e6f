use Rattle.std.proofs.Common.{◌≡◌, ◌≤◌, ◌++◌, length, map}
use Rattle.std.specs.Vec.Iter.{into_iter_items, into_iter_len}
use Rattle.bank_ledger.specs.DraftView.{pair_of}
use Rattle.bank_ledger.proofs.ledger.Ledger.use_up_all.Given as goal

abbrev pub invariant-loop-uid : goal.invariant-loop-uid
invariant-loop-uid l = record {
  items : l.yielded ++ into_iter_items l.uid-iterator ≡ into_iter_items l.initial.uid-iterator;
  count : into_iter_len l.uid-iterator ≡ length (into_iter_items l.uid-iterator);
  window : l.self.window ≡ l.fn.self.window;
  state : l.self.state ≡ record l.fn.self.state { used = l.fn.self.state.used ++ map (pair_of l.fn.user) l.yielded };
  pairs : length (into_iter_items l.uid-iterator) ≤ l.self.room.pairs;
  files : l.self.room.files ≡ l.fn.self.room.files;
}
