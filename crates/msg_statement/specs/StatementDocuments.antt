-- Statement requests and statement replies as documents of a sheet, and that they read back as they were written.
use Rattle.std.specs.Prelude.{◌≡◌, ℕ, ◌<◌, List, [], ◌∷◌, ◌++◌, codes, Option, None, Some, Ok}
use Rattle.std.specs.Fmt.{decimal}
use Rattle.ofx_types.specs.AmountForm.{amount_text}
use Rattle.ofx_types.specs.DateForm.{moment_text}
use Rattle.ofx_types.specs.FormWords.{flag_word}
use Rattle.ofx_types.specs.ReplyForm.{ask_reply}
use Rattle.ofx_types.specs.ReplyReading.{statement_reply_of}
use Rattle.ofx_types.specs.RequestReading.{statement_of}
use Rattle.ofx_types.specs.RequestText.{statement_request}
use Rattle.ofx_types.specs.declared.account.AcctName.{AcctName}
use Rattle.ofx_types.specs.declared.number.Cents.{Cents}
use Rattle.ofx_types.specs.declared.number.Moment.{Moment}
use Rattle.ofx_types.specs.declared.request.Period.{Period}
use Rattle.ofx_types.specs.declared.reply.StatementLine.{StatementLine}
use Rattle.ofx_types.specs.declared.reply.StatementList.{StatementList}
use Rattle.ofx_types.specs.declared.reply.StatementBody.{StatementBody}
use Rattle.ofx_types.specs.declared.request.Ask.TheVariants as asks
use Rattle.ofx_types.specs.declared.reply.AskReply.TheVariants as replies
use Rattle.ofx_tree.specs.Documents.{Documents, empty, leaf, branch, printed, AreLawful, branch_item}
use Rattle.msg_parts.specs.PartDocuments.{account_documents, status_documents, IsReadAlone}
use Rattle.msg_statement.specs.SoundStatements.{IsSoundStatement, IsSoundReply}

-- ---- requests

-- a moment that may be left out, before more
abbrev pub moment_document : List ℕ → Option Moment → Documents → Documents
moment_document name None rest = rest
moment_document name (Some moment) rest = leaf name (moment_text moment.0) rest

-- what is in INCTRAN
abbrev pub period_documents : Period → Documents
period_documents period =
    moment_document (codes "DTSTART") period.start
    (moment_document (codes "DTEND") period.end (leaf (codes "INCLUDE") (flag_word period.include) empty))

abbrev pub period_document : Option Period → Documents
period_document None = empty
period_document (Some period) = branch (codes "INCTRAN") (period_documents period) empty

-- what is in STMTRQ
abbrev pub asked_documents : AcctName → Option Period → Documents
asked_documents account period = branch (codes "BANKACCTFROM") (account_documents account) (period_document period)

-- what is in STMTTRNRQ
abbrev pub statement_documents : List ℕ → AcctName → Option Period → Documents
statement_documents trnuid account period =
    leaf (codes "TRNUID") trnuid (branch (codes "STMTRQ") (asked_documents account period) empty)

-- ---- replies

-- what is in STMTTRN
abbrev pub line_documents : StatementLine → Documents
line_documents line =
    leaf (codes "TRNTYPE") (codes "XFER")
    (leaf (codes "DTPOSTED") (moment_text line.posted.0)
    (leaf (codes "TRNAMT") (amount_text line.amount.0) (leaf (codes "FITID") (decimal line.number) empty)))

abbrev pub lines_documents : List StatementLine → Documents
lines_documents [] = empty
lines_documents (line ∷ lines) = branch (codes "STMTTRN") (line_documents line) (lines_documents lines)

-- what is in BANKTRANLIST
abbrev pub list_documents : StatementList → Documents
list_documents list =
    leaf (codes "DTSTART") (moment_text list.start.0)
    (leaf (codes "DTEND") (moment_text list.end.0) (lines_documents list.lines))

abbrev pub list_document : Option StatementList → Documents → Documents
list_document None rest = rest
list_document (Some list) rest = branch (codes "BANKTRANLIST") (list_documents list) rest

-- what is in LEDGERBAL and AVAILBAL
abbrev pub balance_documents : Cents → Moment → Documents
balance_documents amount moment =
    leaf (codes "BALAMT") (amount_text amount.0) (leaf (codes "DTASOF") (moment_text moment.0) empty)

-- what is in STMTRS
abbrev pub body_documents : StatementBody → Documents
body_documents body =
    leaf (codes "CURDEF") (codes "USD")
    (branch (codes "BANKACCTFROM") (account_documents body.account)
    (list_document body.list
    (branch (codes "LEDGERBAL") (balance_documents body.ledger body.moment)
    (branch (codes "AVAILBAL") (balance_documents body.available body.moment) empty))))

abbrev pub body_document : Option StatementBody → Documents
body_document None = empty
body_document (Some body) = branch (codes "STMTRS") (body_documents body) empty

-- what is in STMTTRNRS
abbrev pub reply_documents : List ℕ → ℕ → Option StatementBody → Documents
reply_documents trnuid code body =
    leaf (codes "TRNUID") trnuid (branch (codes "STATUS") (status_documents code) (body_document body))

-- ---- they read back

-- What is written of a statement request are its documents.
abbrev pub StatementsAreDocuments : Type 0
StatementsAreDocuments =
    (trnuid : List ℕ) (account : AcctName) (period : Option Period) (rest : Documents)
    → printed (branch (codes "STMTTRNRQ") (statement_documents trnuid account period) rest)
    ≡ statement_request trnuid account period ++ printed rest

-- Those of a sound request are lawful.
abbrev pub StatementsAreLawful : Type 0
StatementsAreLawful =
    (room : ℕ) (trnuid : List ℕ) (account : AcctName) (period : Option Period) (rest : Documents)
    → 2 < room → IsSoundStatement trnuid account period → AreLawful room rest
    → AreLawful room (branch (codes "STMTTRNRQ") (statement_documents trnuid account period) rest)

-- Wherever they are, the request is read from them.
abbrev pub StatementsReadBack : Type 0
StatementsReadBack =
    (offset index : ℕ) (trnuid : List ℕ) (account : AcctName) (period : Option Period)
    → IsSoundStatement trnuid account period
    → statement_of (branch_item offset index (codes "STMTTRNRQ") (statement_documents trnuid account period))
    ≡ Ok (asks.Statement trnuid account period)

-- So a sound request that is written alone reads back.
abbrev pub StatementsReadBackAlone : Type 0
StatementsReadBackAlone =
    (trnuid : List ℕ) (account : AcctName) (period : Option Period) → IsSoundStatement trnuid account period
    → IsReadAlone (codes "STMTTRNRQ") (statement_request trnuid account period) statement_of (asks.Statement trnuid account period)

-- The same of statement replies.
abbrev pub StatementRepliesAreDocuments : Type 0
StatementRepliesAreDocuments =
    (trnuid : List ℕ) (code : ℕ) (body : Option StatementBody) (rest : Documents)
    → printed (branch (codes "STMTTRNRS") (reply_documents trnuid code body) rest)
    ≡ ask_reply (replies.Statement trnuid code body) ++ printed rest

abbrev pub StatementRepliesAreLawful : Type 0
StatementRepliesAreLawful =
    (room : ℕ) (trnuid : List ℕ) (code : ℕ) (body : Option StatementBody) (rest : Documents)
    → 3 < room → IsSoundReply trnuid code body → AreLawful room rest
    → AreLawful room (branch (codes "STMTTRNRS") (reply_documents trnuid code body) rest)

abbrev pub StatementRepliesReadBack : Type 0
StatementRepliesReadBack =
    (offset index : ℕ) (trnuid : List ℕ) (code : ℕ) (body : Option StatementBody) → IsSoundReply trnuid code body
    → statement_reply_of (branch_item offset index (codes "STMTTRNRS") (reply_documents trnuid code body))
    ≡ Ok (replies.Statement trnuid code body)

abbrev pub StatementRepliesReadBackAlone : Type 0
StatementRepliesReadBackAlone =
    (trnuid : List ℕ) (code : ℕ) (body : Option StatementBody) → IsSoundReply trnuid code body
    → IsReadAlone (codes "STMTTRNRS") (ask_reply (replies.Statement trnuid code body)) statement_reply_of
    (replies.Statement trnuid code body)
