-- The documents of sound statement requests and replies are lawful.
use Rattle.std.proofs.Common.{ℕ, ◌-◌, ◌<◌, List, [], ◌∷◌, codes, Option, None, Some, refl, arith}
use Rattle.std.specs.List.{AllByRecursion}
use Rattle.std.specs.Option.{IfSome}
use Rattle.ofx_types.specs.declared.account.AcctName.{AcctName}
use Rattle.ofx_types.specs.declared.number.Cents.{Cents}
use Rattle.ofx_types.specs.declared.number.Moment.{Moment}
use Rattle.ofx_types.specs.declared.request.Period.{Period}
use Rattle.ofx_types.specs.declared.reply.StatementLine.{StatementLine}
use Rattle.ofx_types.specs.declared.reply.StatementList.{StatementList}
use Rattle.ofx_types.specs.declared.reply.StatementBody.{StatementBody}
use Rattle.ofx_tree.specs.PrintedForm.{IsElementName}
use Rattle.ofx_tree.specs.Documents.{Documents, AreLawful, IsLeaf}
use Rattle.ofx_tree.proofs.Leaves.{amount_leaf, moment_leaf, number_leaf, flag_leaf}
use Rattle.msg_parts.specs.SoundParts.{IsSoundMoment, IsSoundAmount, IsSoundAccount}
use Rattle.msg_parts.proofs.Lawful.{named, is_branch, text_leaf, currency_leaf, account_lawful, status_lawful}
use Rattle.msg_statement.specs.StatementDocuments.{moment_document, period_documents, period_document, asked_documents, statement_documents, line_documents, lines_documents, list_documents, list_document, balance_documents, body_documents, body_document, reply_documents, StatementsAreLawful, StatementRepliesAreLawful}
use Rattle.msg_statement.specs.SoundStatements.{IsSoundPeriod, IsSoundStatement, IsSoundLine, IsSoundList, IsSoundBody, IsSoundByCode, IsSoundReply}

-- ---- names and words

type_leaf : IsLeaf (codes "TRNTYPE") (codes "XFER")
type_leaf = record { has_name = named (codes "TRNTYPE") refl refl; is_text = record { is_trimmed = refl; is_clean = refl; is_short = omega arith }; is_there = omega arith }

-- ---- requests

moment_lawful : (room : ℕ) (name : List ℕ) (moment : Option Moment) (rest : Documents) → IsElementName name → IfSome moment IsSoundMoment →
    AreLawful room rest → AreLawful room (moment_document name moment rest)
moment_lawful room name None rest n h more = more
moment_lawful room name (Some moment) rest n h more = (moment_leaf name moment.0 n h, more)

pub period_lawful : (room : ℕ) (period : Period) → IsSoundPeriod period → AreLawful room (period_documents period)
period_lawful room period p =
    moment_lawful room (codes "DTSTART") period.start _ (named (codes "DTSTART") refl refl) p.start
    (moment_lawful room (codes "DTEND") period.end _ (named (codes "DTEND") refl refl) p.end
    (flag_leaf (codes "INCLUDE") period.include (named (codes "INCLUDE") refl refl), tt))

maybe_period_lawful : (room : ℕ) (period : Option Period) → 0 < room → IfSome period IsSoundPeriod → AreLawful room (period_document period)
maybe_period_lawful room None some h = tt
maybe_period_lawful room (Some period) some h = (is_branch (codes "INCTRAN") refl refl refl, some, period_lawful (room - 1) period h, tt)

pub asked_lawful : (room : ℕ) (account : AcctName) (period : Option Period) → 0 < room → IsSoundAccount account → IfSome period IsSoundPeriod →
    AreLawful room (asked_documents account period)
asked_lawful room account period some a p =
    (is_branch (codes "BANKACCTFROM") refl refl refl, some, account_lawful (room - 1) account a, maybe_period_lawful room period some p)

pub statement_lawful : (room : ℕ) (trnuid : List ℕ) (account : AcctName) (period : Option Period) → 1 < room → IsSoundStatement trnuid account period →
    AreLawful room (statement_documents trnuid account period)
statement_lawful room trnuid account period some s = (
  text_leaf (codes "TRNUID") 36 trnuid (named (codes "TRNUID") refl refl) s.is_uid,
  (is_branch (codes "STMTRQ") refl refl refl, omega arith, asked_lawful (room - 1) account period (omega arith) s.is_account s.is_period, tt),
)

pub statements_lawful : StatementsAreLawful
statements_lawful room trnuid account period rest some s more =
    (is_branch (codes "STMTTRNRQ") refl refl refl, omega arith, statement_lawful (room - 1) trnuid account period (omega arith) s, more)

-- ---- replies

pub line_lawful : (room : ℕ) (line : StatementLine) → IsSoundLine line → AreLawful room (line_documents line)
line_lawful room line l = (
  type_leaf,
  (
    moment_leaf (codes "DTPOSTED") line.posted.0 (named (codes "DTPOSTED") refl refl) l.posted,
    (
      amount_leaf (codes "TRNAMT") line.amount.0 (named (codes "TRNAMT") refl refl) l.amount,
      (number_leaf (codes "FITID") line.number (named (codes "FITID") refl refl) (omega (arith, l.number)), tt),
    ),
  ),
)

lines_lawful : (room : ℕ) (lines : List StatementLine) → 0 < room → AllByRecursion IsSoundLine lines → AreLawful room (lines_documents lines)
lines_lawful room [] some h = tt
lines_lawful room (line ∷ lines) some (h, more) =
    (is_branch (codes "STMTTRN") refl refl refl, some, line_lawful (room - 1) line h, lines_lawful room lines some more)

pub list_lawful : (room : ℕ) (list : StatementList) → 0 < room → IsSoundList list → AreLawful room (list_documents list)
list_lawful room list some l = (
  moment_leaf (codes "DTSTART") list.start.0 (named (codes "DTSTART") refl refl) l.start,
  (moment_leaf (codes "DTEND") list.end.0 (named (codes "DTEND") refl refl) l.end, lines_lawful room list.lines some l.lines),
)

maybe_list_lawful : (room : ℕ) (list : Option StatementList) (rest : Documents) → 1 < room → IfSome list IsSoundList → AreLawful room rest →
    AreLawful room (list_document list rest)
maybe_list_lawful room None rest some h more = more
maybe_list_lawful room (Some list) rest some h more =
    (is_branch (codes "BANKTRANLIST") refl refl refl, omega arith, list_lawful (room - 1) list (omega arith) h, more)

pub balance_lawful : (room : ℕ) (amount : Cents) (moment : Moment) → IsSoundAmount amount → IsSoundMoment moment → AreLawful room (balance_documents amount moment)
balance_lawful room amount moment a m =
    (amount_leaf (codes "BALAMT") amount.0 (named (codes "BALAMT") refl refl) a, (moment_leaf (codes "DTASOF") moment.0 (named (codes "DTASOF") refl refl) m, tt))

pub body_lawful : (room : ℕ) (body : StatementBody) → 1 < room → IsSoundBody body → AreLawful room (body_documents body)
body_lawful room body some b = (
  currency_leaf,
  (
    is_branch (codes "BANKACCTFROM") refl refl refl,
    omega arith,
    account_lawful (room - 1) body.account b.account,
    maybe_list_lawful room body.list _ some b.list (
      is_branch (codes "LEDGERBAL") refl refl refl,
      omega arith,
      balance_lawful (room - 1) body.ledger body.moment b.ledger b.moment,
      (is_branch (codes "AVAILBAL") refl refl refl, omega arith, balance_lawful (room - 1) body.available body.moment b.available b.moment, tt),
    ),
  ),
)

maybe_body_lawful : (room code : ℕ) (body : Option StatementBody) → 2 < room → IsSoundByCode code body → AreLawful room (body_document body)
maybe_body_lawful room code None some h = tt
maybe_body_lawful room code (Some body) some h = (is_branch (codes "STMTRS") refl refl refl, omega arith, body_lawful (room - 1) body (omega arith) h.1, tt)

pub reply_lawful : (room : ℕ) (trnuid : List ℕ) (code : ℕ) (body : Option StatementBody) → 2 < room → IsSoundReply trnuid code body →
    AreLawful room (reply_documents trnuid code body)
reply_lawful room trnuid code body some r = (
  text_leaf (codes "TRNUID") 36 trnuid (named (codes "TRNUID") refl refl) r.is_uid,
  (is_branch (codes "STATUS") refl refl refl, omega arith, status_lawful (room - 1) code r.is_code, maybe_body_lawful room code body some r.is_body),
)

pub replies_lawful : StatementRepliesAreLawful
replies_lawful room trnuid code body rest some r more =
    (is_branch (codes "STMTTRNRS") refl refl refl, omega arith, reply_lawful (room - 1) trnuid code body (omega arith) r, more)
