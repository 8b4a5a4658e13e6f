-- Replies that may be printed.
use Rattle.std.specs.Prelude.{◌≡◌, ◌≢◌, ℕ, None, Some, Option}
use Rattle.std.specs.Option.{IfSome}
use Rattle.std.specs.List.{AllByRecursion}
use Rattle.ofx_types.specs.Calendar.{IsMoment, IsDay}
use Rattle.ofx_types.specs.declared.transfer.XferCode.TheVariants.{Cancelled}
use Rattle.ofx_types.specs.declared.transfer.TransferRow.{TransferRow}
use Rattle.ofx_types.specs.declared.transfer.Change.{Change}
use Rattle.ofx_types.specs.declared.transfer.Change.TheVariants.{NewTransfer, SetTransfer, DropTransfer, NewModel, SetModel, DropModel, NewMail}
use Rattle.ofx_types.specs.declared.transfer.DeedReply.{DeedReply}
use Rattle.ofx_types.specs.declared.reply.StatementLine.{StatementLine}
use Rattle.ofx_types.specs.declared.reply.StatementList.{StatementList}
use Rattle.ofx_types.specs.declared.reply.StatementBody.{StatementBody}
use Rattle.ofx_types.specs.declared.reply.AskReply.{AskReply}
use Rattle.ofx_types.specs.declared.reply.AskReply.TheVariants.{Statement, One, Sync}
use Rattle.ofx_types.specs.declared.reply.ReplyFile.{ReplyFile}

pub record IsPrintableList (list : StatementList) : Type 0 where
  pub start : IsMoment list.start.0
  pub end : IsMoment list.end.0
  pub lines : AllByRecursion (λ (line : StatementLine). IsMoment line.posted.0) list.lines

pub record IsPrintableBody (body : StatementBody) : Type 0 where
  pub list : IfSome body.list IsPrintableList
  pub moment : IsMoment body.moment.0

-- A statement has a body exactly where its code is 0.
abbrev pub HasBodyByCode : ℕ → Option StatementBody → Type 0
HasBodyByCode code None = code ≢ 0
HasBodyByCode code (Some body) = (code ≡ 0) × IsPrintableBody body

-- A row that is reported isn't cancelled. Its day and its stamp lie in the years 1900 to 9999, and so does the first day of a
-- recurring transfer and the moment at which a mail was written.
pub record IsPrintableRow (row : TransferRow) : Type 0 where
  pub reported : row.code ≢ Cancelled
  pub due : IsDay row.due.0
  pub stamp : IsMoment row.stamp.0

abbrev pub IsPrintableChange : Change → Type 0
IsPrintableChange (NewTransfer row) = IsPrintableRow row
IsPrintableChange (SetTransfer row) = IsPrintableRow row
IsPrintableChange (DropTransfer id) = Unit {0}
IsPrintableChange (NewModel row) = IsDay row.first.0
IsPrintableChange (SetModel row pending) = IsDay row.first.0
IsPrintableChange (DropModel id pending) = Unit {0}
IsPrintableChange (NewMail row) = IsMoment row.mail.created.0

-- A deed's reply has a change exactly where its code is 0.
abbrev pub HasChangeByCode : ℕ → Option Change → Type 0
HasChangeByCode code None = code ≢ 0
HasChangeByCode code (Some change) = (code ≡ 0) × IsPrintableChange change

abbrev pub IsPrintableReply : AskReply → Type 0
IsPrintableReply (Statement trnuid code body) = HasBodyByCode code body
IsPrintableReply (One reply) = HasChangeByCode reply.code reply.change
IsPrintableReply (Sync reply) = AllByRecursion (λ (answer : DeedReply). HasChangeByCode answer.code answer.change) reply.replies

-- The moments of a printed reply lie in the years 1900 to 9999.
pub record IsPrintable (reply : ReplyFile) : Type 0 where
  pub moment : IsMoment reply.moment.0
  pub replies : AllByRecursion IsPrintableReply reply.replies
