-- The lines that a reply file has.
use Rattle.std.specs.Prelude.{ℕ, ◌==◌, ◌<◌, ◌≤◌, ◌^◌, unsigned_abs, if◌then◌else◌, List, [], map, Option, None, Some}
use Rattle.std.specs.List.{flat_map}
use Rattle.ofx_types.specs.Calendar.{IsMoment}
use Rattle.ofx_types.specs.declared.account.AcctName.{AcctName}
use Rattle.ofx_types.specs.declared.reply.StatementLine.{StatementLine}
use Rattle.ofx_types.specs.declared.reply.StatementList.{StatementList}
use Rattle.ofx_types.specs.declared.reply.StatementBody.{StatementBody}
use Rattle.ofx_types.specs.declared.reply.AskReply.{AskReply}
use Rattle.ofx_types.specs.declared.reply.AskReply.TheVariants as replies
use Rattle.ofx_types.specs.declared.reply.ReplyFile.{ReplyFile}
use Rattle.bank_model.specs.Sound.{IsSoundAccount}
use Rattle.file_register.specs.declared.line.Line.{Line}

-- A line of a statement of that account.
abbrev pub line_of : AcctName → StatementLine → Line
line_of account line = record { account = account; fitid = line.number; posted = line.posted; amount = line.amount }

-- the lines of a list, where there is one
abbrev pub listed : AcctName → Option StatementList → List Line
listed account None = []
listed account (Some list) = map (line_of account) list.lines

-- Only a statement with the code 0 has lines.
abbrev pub lines_by : ℕ → Option StatementBody → List Line
lines_by code None = []
lines_by code (Some body) = if code == 0 then listed body.account body.list else []

abbrev pub lines_in : AskReply → List Line
lines_in (replies.Statement trnuid code body) = lines_by code body
lines_in (replies.One reply) = []
lines_in (replies.Sync reply) = []

-- The lines of a reply file are those of its statements, in order.
abbrev pub lines_of : ReplyFile → List Line
lines_of reply = flat_map lines_in reply.replies

-- The account's texts have 1 to 32 bytes, the FITID has eight bytes as it has in any memory, the moment lies in the years
-- 1900 to 9999, and the amount is at most 99,999,999,999.99 either way.
pub record IsSoundLine (line : Line) : Type 0 where
  pub account : IsSoundAccount line.account
  pub fitid : line.fitid < 2 ^ 64
  pub posted : IsMoment line.posted.0
  pub amount : unsigned_abs line.amount.0 ≤ 9999999999999
