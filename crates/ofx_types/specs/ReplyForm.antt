-- The printed form of a reply file.
use Rattle.std.specs.Prelude.{ℕ, Bool, false, not, List, [], ◌++◌, filter, codes, Option, None, Some}
use Rattle.std.specs.List.{flat_map}
use Rattle.std.specs.Fmt.{decimal}
use Rattle.ofx_types.specs.Sheet.{element, aggregate, aggregate_of_some, header_text}
use Rattle.ofx_types.specs.AmountForm.{amount_text}
use Rattle.ofx_types.specs.DateForm.{moment_text}
use Rattle.ofx_types.specs.CommonText.{status, account_from}
use Rattle.ofx_types.specs.DeedText.{deed_reply_text}
use Rattle.ofx_types.specs.SyncForm.{object_family, is_mail_family}
use Rattle.ofx_types.specs.PrintedSync.{sync_reply_text}
use Rattle.ofx_types.specs.declared.number.Cents.{Cents}
use Rattle.ofx_types.specs.declared.number.Moment.{Moment}
use Rattle.ofx_types.specs.declared.reply.StatementLine.{StatementLine}
use Rattle.ofx_types.specs.declared.reply.StatementList.{StatementList}
use Rattle.ofx_types.specs.declared.reply.StatementBody.{StatementBody}
use Rattle.ofx_types.specs.declared.reply.AskReply.{AskReply}
use Rattle.ofx_types.specs.declared.reply.AskReply.TheVariants.{Statement, One, Sync}
use Rattle.ofx_types.specs.declared.reply.ReplyFile.{ReplyFile}

-- The answer to the signon, with the moment of the reply.
unfoldable pub signon_reply : ℕ → Moment → List ℕ
signon_reply code moment = aggregate (codes "SONRS")
    (status code ++ (element (codes "DTSERVER") (moment_text moment.0) ++ element (codes "LANGUAGE") (codes "ENG")))

-- A posted transfer.
unfoldable pub statement_line : StatementLine → List ℕ
statement_line line = aggregate (codes "STMTTRN")
    (element (codes "TRNTYPE") (codes "XFER")
    ++ (element (codes "DTPOSTED") (moment_text line.posted.0)
    ++ (element (codes "TRNAMT") (amount_text line.amount.0) ++ element (codes "FITID") (decimal line.number))))

-- The list of a period, where the request asked for it.
unfoldable pub statement_list : Option StatementList → List ℕ
statement_list None = []
statement_list (Some list) = aggregate (codes "BANKTRANLIST")
    (element (codes "DTSTART") (moment_text list.start.0)
    ++ (element (codes "DTEND") (moment_text list.end.0) ++ flat_map statement_line list.lines))

-- A balance at a moment.
unfoldable pub balance : List ℕ → Cents → Moment → List ℕ
balance name amount moment = aggregate name
    (element (codes "BALAMT") (amount_text amount.0) ++ element (codes "DTASOF") (moment_text moment.0))

unfoldable pub statement_body : Option StatementBody → List ℕ
statement_body None = []
statement_body (Some body) = aggregate (codes "STMTRS")
    (element (codes "CURDEF") (codes "USD")
    ++ (account_from body.account
    ++ (statement_list body.list
    ++ (balance (codes "LEDGERBAL") body.ledger body.moment ++ balance (codes "AVAILBAL") body.available body.moment))))

unfoldable pub ask_reply : AskReply → List ℕ
ask_reply (Statement trnuid code body) = aggregate (codes "STMTTRNRS")
    (element (codes "TRNUID") trnuid ++ (status code ++ statement_body body))
ask_reply (One reply) = deed_reply_text reply
ask_reply (Sync reply) = sync_reply_text reply

-- Mail is in a message set of its own.
abbrev pub is_mail_reply : AskReply → Bool
is_mail_reply (Statement trnuid code body) = false
is_mail_reply (One reply) = is_mail_family reply.family
is_mail_reply (Sync reply) = is_mail_family (object_family reply.object)

-- The reply repeats the request's version and its NEWFILEUID.
unfoldable pub reply_text : ReplyFile → List ℕ
reply_text reply = header_text reply.version None reply.newer
    ++ aggregate (codes "OFX")
    (aggregate (codes "SIGNONMSGSRSV1") (signon_reply reply.signon reply.moment)
    ++ (aggregate_of_some (codes "BANKMSGSRSV1") (flat_map ask_reply (filter (λ (answer : AskReply). not (is_mail_reply answer)) reply.replies))
    ++ aggregate_of_some (codes "EMAILMSGSRSV1") (flat_map ask_reply (filter is_mail_reply reply.replies))))
