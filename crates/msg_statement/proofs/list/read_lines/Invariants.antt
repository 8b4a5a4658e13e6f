use Rattle.std.proofs.Common.{◌≡◌}
use Rattle.ofx_types.specs.Nodes.{children}
use Rattle.ofx_types.specs.ReplyReading as reading
use Rattle.msg_statement.specs.StatementSteps as steps
use Rattle.msg_statement.proofs.list.read_lines.Given as goal

-- the lines so far and what is still to come make the lines of all
abbrev pub invariant-loop-child : goal.invariant-loop-child
invariant-loop-child l = steps.lines_after l.lines l.child-iterator ≡ reading.lines_of (children l.banktranlist)
