-- What a reply still says once it is written and read again.
use Rattle.std.specs.Prelude.{map}
use Rattle.std.specs.Option.{option_map}
use Rattle.ofx_types.specs.declared.transfer.TransferRow.{TransferRow}
use Rattle.ofx_types.specs.declared.transfer.Change.{Change}
use Rattle.ofx_types.specs.declared.transfer.Change.TheVariants.{NewTransfer, SetTransfer, DropTransfer, NewModel, SetModel, DropModel, NewMail}
use Rattle.ofx_types.specs.declared.transfer.DeedReply.{DeedReply}
use Rattle.ofx_types.specs.declared.sync.SyncReply.{SyncReply}
use Rattle.ofx_types.specs.declared.reply.AskReply.{AskReply}
use Rattle.ofx_types.specs.declared.reply.AskReply.TheVariants.{Statement, One, Sync}
use Rattle.ofx_types.specs.declared.reply.ReplyFile.{ReplyFile}

-- INTRAMODRS has no RECSRVRTID, so a changed row doesn't say which recurring transfer made it: its model is 0.
abbrev pub without_model : TransferRow → TransferRow
without_model row = record {
  id = row.id;
  model = 0;
  from = row.from;
  to = row.to;
  amount = row.amount;
  due = row.due;
  code = row.code;
  stamp = row.stamp;
}

abbrev pub wire_change : Change → Change
wire_change (NewTransfer row) = NewTransfer row
wire_change (SetTransfer row) = SetTransfer (without_model row)
wire_change (DropTransfer id) = DropTransfer id
wire_change (NewModel row) = NewModel row
wire_change (SetModel row pending) = SetModel row pending
wire_change (DropModel id pending) = DropModel id pending
wire_change (NewMail row) = NewMail row

-- The answer to a deed, with the model of a changed row set to 0.
abbrev pub wire : DeedReply → DeedReply
wire reply = record {
  trnuid = reply.trnuid;
  family = reply.family;
  code = reply.code;
  change = option_map wire_change reply.change;
}

-- The same of each answer in the reply to a synchronisation,
abbrev pub wire_sync : SyncReply → SyncReply
wire_sync reply = record { object = reply.object; token = reply.token; lost = reply.lost; replies = map wire reply.replies }

-- of any answer,
abbrev pub wire_answer : AskReply → AskReply
wire_answer (Statement trnuid code body) = Statement trnuid code body
wire_answer (One answer) = One (wire answer)
wire_answer (Sync answer) = Sync (wire_sync answer)

-- and of a whole reply.
abbrev pub wire_file : ReplyFile → ReplyFile
wire_file reply = record {
  version = reply.version;
  newer = reply.newer;
  signon = reply.signon;
  moment = reply.moment;
  replies = map wire_answer reply.replies;
}
