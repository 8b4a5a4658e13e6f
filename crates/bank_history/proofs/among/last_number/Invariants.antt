use Rattle.std.proofs.Common.{◌≡◌, take}
use Rattle.bank_model.specs.Objects.{history_of, last_number_from}
use Rattle.bank_history.proofs.among.last_number.Given as goal

abbrev pub invariant-loop-entry : goal.invariant-loop-entry
invariant-loop-entry l = l.number ≡ last_number_from l.fn.before (history_of l.object (take l.entry-index l.entries))
