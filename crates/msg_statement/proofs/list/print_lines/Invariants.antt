use Rattle.std.proofs.Common.{◌≡◌, ◌++◌, take}
use Rattle.std.specs.List.{flat_map}
use Rattle.ofx_types.specs.ReplyForm.{statement_line}
use Rattle.msg_statement.proofs.list.print_lines.Given as goal

-- the lines so far are appended
abbrev pub invariant-loop-line : goal.invariant-loop-line
invariant-loop-line l = l.sheet ≡ l.fn.sheet ++ flat_map statement_line (take l.line-index l.lines)
