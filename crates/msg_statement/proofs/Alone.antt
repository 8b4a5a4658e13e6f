-- Statement requests and replies that are written alone between the tags of OFX read back.
use Rattle.std.proofs.Common.{codes, ◌∙◌, arith, append-nil}
use Rattle.ofx_types.specs.ReplyForm.{ask_reply}
use Rattle.ofx_types.specs.ReplyReading.{statement_reply_of}
use Rattle.ofx_types.specs.RequestReading.{statement_of}
use Rattle.ofx_types.specs.RequestText.{statement_request}
use Rattle.ofx_types.specs.declared.request.Ask.TheVariants as asks
use Rattle.ofx_types.specs.declared.reply.AskReply.TheVariants as replies
use Rattle.ofx_tree.specs.Documents.{empty}
use Rattle.msg_parts.proofs.Alone.{read_alone}
use Rattle.msg_statement.specs.StatementDocuments.{statement_documents, reply_documents, StatementsReadBackAlone, StatementRepliesReadBackAlone}
use Rattle.msg_statement.proofs.Lawful.{statements_lawful, replies_lawful}
use Rattle.msg_statement.proofs.PrintedDocuments.{statements_printed, replies_printed}
use Rattle.msg_statement.proofs.RequestsBack.{statements_back}
use Rattle.msg_statement.proofs.RepliesBack.{replies_back}

pub statements_alone : StatementsReadBackAlone
statements_alone trnuid account period s =
    read_alone (codes "STMTTRNRQ") (statement_request trnuid account period) (statement_documents trnuid account period) statement_of (asks.Statement trnuid account period)
    (statements_printed trnuid account period empty ∙ append-nil (statement_request trnuid account period))
    (statements_lawful 15 trnuid account period empty (omega arith) s tt)
    (λ offset index. statements_back offset index trnuid account period s)

pub replies_alone : StatementRepliesReadBackAlone
replies_alone trnuid code body r =
    read_alone (codes "STMTTRNRS") (ask_reply (replies.Statement trnuid code body)) (reply_documents trnuid code body) statement_reply_of (replies.Statement trnuid code body)
    (replies_printed trnuid code body empty ∙ append-nil (ask_reply (replies.Statement trnuid code body)))
    (replies_lawful 15 trnuid code body empty (omega arith) r tt)
    (λ offset index. replies_back offset index trnuid code body r)
