use Rattle.std.proofs.Common.{◌≡◌, ◌≤◌, ◌*◌, take}
use Rattle.std.specs.Prelude.{unsigned_abs}
use Rattle.file_register.specs.Registers.{sum_of}
use Rattle.file_register.proofs.summing.sum_of.Given as goal

abbrev pub invariant-loop-line : goal.invariant-loop-line
invariant-loop-line l = record {
  sum : l.total ≡ sum_of l.account (take l.line-index l.lines);
  small : unsigned_abs l.total ≤ l.line-index * 9999999999999;
}
