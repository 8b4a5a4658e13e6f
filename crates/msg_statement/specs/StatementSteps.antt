-- The steps in which statements are read and written, each a part of its form.
use Rattle.std.specs.Prelude.{ℕ, ◌++◌, List, codes, Option, None, Some, Result, Ok, if◌then◌else◌}
use Rattle.ofx_types.specs.Nodes.{Item}
use Rattle.ofx_types.specs.FormWords.{has_name, ◌>>=◌}
use Rattle.ofx_types.specs.CommonText.{account_from}
use Rattle.ofx_types.specs.ReplyReading.{line_of, lines_of}
use Rattle.ofx_types.specs.RequestText.{period_request}
use Rattle.ofx_types.specs.Sheet.{aggregate}
use Rattle.ofx_types.specs.declared.fault.TreeFault.{TreeFault}
use Rattle.ofx_types.specs.declared.account.AcctName.{AcctName}
use Rattle.ofx_types.specs.declared.request.Period.{Period}
use Rattle.ofx_types.specs.declared.reply.StatementLine.{StatementLine}

-- The line that a child of a list is, if it is one.
abbrev pub some_line : StatementLine → Result (Option StatementLine) TreeFault
some_line line = Ok (Some line)

unfoldable pub line_at : Item → Result (Option StatementLine) TreeFault
line_at child = if has_name (codes "STMTTRN") child then (line_of child >>= some_line) else Ok None

-- the lines that are read already, and those among the children still to come
abbrev pub joined : List StatementLine → List StatementLine → Result (List StatementLine) TreeFault
joined prefix more = Ok (prefix ++ more)

unfoldable pub lines_after : List StatementLine → List Item → Result (List StatementLine) TreeFault
lines_after prefix items = lines_of items >>= joined prefix

-- what a statement request says after its uid
abbrev pub asked : AcctName → Option Period → List ℕ
asked account period = aggregate (codes "STMTRQ") (account_from account ++ period_request period)
