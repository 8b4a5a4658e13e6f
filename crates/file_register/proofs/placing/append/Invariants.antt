use Rattle.std.proofs.Common.{◌≡◌, ◌++◌, ◌+◌, ◌≤◌, length, vec_len, vec_capacity}
use Rattle.file_register.proofs.placing.append.Given as goal

abbrev pub invariant-loop-ranked : goal.invariant-loop-ranked
invariant-loop-ranked l = record {
  whole : l.lines.items ++ l.left.keys ≡ l.fn.lines.items ++ l.fn.fresh.keys;
  room : vec_len l.lines + length l.left.keys ≤ vec_capacity l.lines;
}

abbrev pub decreases-loop-ranked : goal.decreases-loop-ranked
decreases-loop-ranked l = length l.left.keys
