use Rattle.std.proofs.Common.{◌≡◌, ◌-◌, ◌≤◌, None, length}
use Rattle.file_register.specs.Reading.{lines_from}
use Rattle.file_register.proofs.Loops.{with_prefix, last_of}
use Rattle.file_register.proofs.saving.lines_from.Given as goal

abbrev pub invariant-loop : goal.invariant-loop
invariant-loop l = record {
  within : l.next ≤ length l.text;
  read : with_prefix l.lines (lines_from (l.count - l.counter) (last_of l.lines) l.text l.next) ≡ lines_from l.count None l.text l.at;
}
