use Rattle.std.proofs.Common.{◌≡◌, ◌++◌, take}
use Rattle.ofx_types.specs.Sheet.{escaped}
use Rattle.ofx_tree.proofs.escape.escape_each.Given as goal

-- the bytes so far are appended
abbrev pub invariant-loop-byte : goal.invariant-loop-byte
invariant-loop-byte l = l.out.items ≡ l.fn.out.items ++ escaped (take l.byte-index l.value)
