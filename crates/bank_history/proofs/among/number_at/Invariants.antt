use Rattle.std.proofs.Common.{◌≡◌, ◌+◌, length, take}
use Rattle.bank_model.specs.Objects.{history_of, last_number_from}
use Rattle.bank_history.proofs.among.number_at.Given as goal

-- as many as are taken and those that are left are all that are wanted
abbrev pub invariant-loop-entry : goal.invariant-loop-entry
invariant-loop-entry l = record {
  number : l.number ≡ last_number_from l.fn.before (history_of l.object (take l.entry-index l.entries));
  left : l.left + length (history_of l.object (take l.entry-index l.entries)) ≡ l.fn.most;
}
