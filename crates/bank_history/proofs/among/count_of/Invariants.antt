use Rattle.std.proofs.Common.{◌≡◌, ◌≤◌, length, take}
use Rattle.bank_model.specs.Objects.{history_of}
use Rattle.bank_history.proofs.among.count_of.Given as goal

abbrev pub invariant-loop-entry : goal.invariant-loop-entry
invariant-loop-entry l = record {
  count : l.count ≡ length (history_of l.object (take l.entry-index l.entries));
  most : l.count ≤ l.entry-index;
}
