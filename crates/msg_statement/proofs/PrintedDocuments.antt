-- The printed forms of statement requests and replies are those of their documents.
use Rattle.std.proofs.Common.{◌≡◌, ℕ, List, [], ◌∷◌, ◌++◌, codes, Option, None, Some, refl, append-nil}
use Rattle.std.specs.List.{flat_map}
use Rattle.ofx_types.specs.FormWords.{flag_word}
use Rattle.ofx_types.specs.CommonText as common
use Rattle.ofx_types.specs.ReplyForm as form
use Rattle.ofx_types.specs.RequestText as text
use Rattle.ofx_types.specs.Sheet as sheet
use Rattle.ofx_types.specs.declared.account.AcctName.{AcctName}
use Rattle.ofx_types.specs.declared.number.Cents.{Cents}
use Rattle.ofx_types.specs.declared.number.Moment.{Moment}
use Rattle.ofx_types.specs.declared.request.Period.{Period}
use Rattle.ofx_types.specs.declared.reply.StatementLine.{StatementLine}
use Rattle.ofx_types.specs.declared.reply.StatementList.{StatementList}
use Rattle.ofx_types.specs.declared.reply.StatementBody.{StatementBody}
use Rattle.ofx_tree.specs.Documents.{Documents, empty, leaf, printed}
use Rattle.msg_parts.proofs.Printed.{account_printed, status_printed}
use Rattle.msg_statement.specs.StatementDocuments.{moment_document, period_documents, period_document, asked_documents, line_documents, lines_documents, list_document, balance_documents, body_document, StatementsAreDocuments, StatementRepliesAreDocuments}

-- ---- requests

moment_printed : (name : List ℕ) (moment : Option Moment) (rest : Documents) → printed (moment_document name moment rest) ≡ text.maybe_moment name moment ++ printed rest
unfolding text.maybe_moment
moment_printed name None rest = refl
moment_printed name (Some moment) rest = refl

period_printed : (period : Option Period) → printed (period_document period) ≡ text.period_request period
unfolding text.period_request
period_printed None = refl
period_printed (Some period) =
    rw (
      append-nil (sheet.aggregate (codes "INCTRAN") (printed (period_documents period))),
      moment_printed (codes "DTSTART") period.start (moment_document (codes "DTEND") period.end (leaf (codes "INCLUDE") (flag_word period.include) empty)),
      moment_printed (codes "DTEND") period.end (leaf (codes "INCLUDE") (flag_word period.include) empty),
      append-nil (sheet.element (codes "INCLUDE") (flag_word period.include)),
    ) refl

asked_printed : (account : AcctName) (period : Option Period) → printed (asked_documents account period) ≡ common.account_from account ++ text.period_request period
asked_printed account period = rw (account_printed account, period_printed period) refl

pub statements_printed : StatementsAreDocuments
unfolding text.statement_request
statements_printed trnuid account period rest =
    rw (append-nil (sheet.aggregate (codes "STMTRQ") (printed (asked_documents account period))), asked_printed account period) refl

-- ---- replies

line_printed : (line : StatementLine) → sheet.aggregate (codes "STMTTRN") (printed (line_documents line)) ≡ form.statement_line line
unfolding form.statement_line
line_printed line = rw append-nil refl

lines_printed : (lines : List StatementLine) → printed (lines_documents lines) ≡ flat_map form.statement_line lines
lines_printed [] = refl
lines_printed (line ∷ lines) = rw (line_printed line, lines_printed lines) refl

list_printed : (list : Option StatementList) (rest : Documents) → printed (list_document list rest) ≡ form.statement_list list ++ printed rest
unfolding form.statement_list
list_printed None rest = refl
list_printed (Some list) rest = rw (lines_printed list.lines) refl

balance_printed : (name : List ℕ) (amount : Cents) (moment : Moment) → sheet.aggregate name (printed (balance_documents amount moment)) ≡ form.balance name amount moment
unfolding form.balance
balance_printed name amount moment = rw append-nil refl

body_printed : (body : Option StatementBody) → printed (body_document body) ≡ form.statement_body body
unfolding form.statement_body
body_printed None = refl
body_printed (Some body) =
    rw (
      append-nil,
      account_printed body.account,
      list_printed body.list,
      balance_printed (codes "LEDGERBAL") body.ledger body.moment,
      balance_printed (codes "AVAILBAL") body.available body.moment,
      append-nil,
    ) refl

pub replies_printed : StatementRepliesAreDocuments
unfolding form.ask_reply
replies_printed trnuid code body rest = rw (status_printed code, body_printed body) refl
