use Rattle.std.proofs.Common.{◌≡◌, ◌+◌, ◌≤◌, length}
use Rattle.bank_model.specs.SetupFault.{lines_in}
use Rattle.bank_model.specs.SetupReading.{unread, with_lines, left_in}
use Rattle.bank_model.proofs.setup.reading.read_lines.Given as goal

-- the lines that are taken, and those of the rest
abbrev pub invariant-loop-line : goal.invariant-loop-line
invariant-loop-line l = record {
  read : with_lines l.number l.draft (lines_in l.rest) ≡ with_lines 1 unread (lines_in l.fn.bytes);
  count : l.number + length (lines_in l.rest) ≡ length (lines_in l.fn.bytes) + 1;
  left : left_in l.rest ≡ left_in l.fn.bytes;
  few : l.number + length l.rest ≤ length l.fn.bytes + 1;
}

abbrev pub decreases-loop-line : goal.decreases-loop-line
decreases-loop-line l = length l.rest
