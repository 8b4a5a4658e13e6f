-- What a statement tells of one posting.
use Rattle.std.specs.Prelude.{◌&&◌, if◌then◌else◌, List, [], ◌∷◌, Option}
use Rattle.ofx_types.specs.declared.account.AcctName.{AcctName}
use Rattle.ofx_types.specs.declared.number.Moment.{Moment}
use Rattle.ofx_types.specs.declared.reply.StatementLine.{StatementLine}
use Rattle.bank_model.specs.Ledger.{Posting, is_about, is_within_period, line_for}

abbrev pub lines_for : AcctName → Moment → Option Moment → Posting → List StatementLine
lines_for name start end posting =
    if is_about name posting && is_within_period start end posting then line_for name posting ∷ [] else []
