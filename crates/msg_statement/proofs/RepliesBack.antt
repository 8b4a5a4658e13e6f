-- Sound statement replies read back as they were written.
use Rattle.std.proofs.Common.{◌≡◌, ℕ, ◌+◌, false, filter, List, [], ◌∷◌, length, codes, Option, None, Some, Result, Ok, refl, ap, ◌∙◌, arith}
use Rattle.std.specs.List.{AllByRecursion}
use Rattle.std.specs.Str.{bytes_eq}
use Rattle.ofx_types.specs.DateForm.{moment_text}
use Rattle.ofx_types.specs.FormWords.{has_name, IsOnly}
use Rattle.ofx_types.specs.Nodes.{Item, children}
use Rattle.ofx_types.specs.ReplyReading.{code_of, status_of, line_of, line_onto, lines_of, list_of, balance_of, body_of, statement_reply_of}
use Rattle.ofx_types.specs.Sheet as sheet
use Rattle.ofx_types.specs.declared.fault.TreeFault.{TreeFault}
use Rattle.ofx_types.specs.declared.account.AcctName.{AcctName}
use Rattle.ofx_types.specs.declared.number.Cents.{Cents}
use Rattle.ofx_types.specs.declared.number.Moment.{Moment}
use Rattle.ofx_types.specs.declared.reply.StatementLine.{StatementLine}
use Rattle.ofx_types.specs.declared.reply.StatementList.{StatementList}
use Rattle.ofx_types.specs.declared.reply.StatementBody.{StatementBody}
use Rattle.ofx_tree.specs.Documents.{leaf_item, branch_item, items_of}
use Rattle.ofx_tree.proofs.FormLaws.{bind_to, one_again, none_again, some_again}
use Rattle.ofx_tree.proofs.DocumentItems.{children_of_branch, named_of_branch}
use Rattle.ofx_tree.proofs.Leaves.{text_of_leaf, amount_of_leaf, moment_of_leaf, number_of_leaf}
use Rattle.msg_parts.specs.SoundParts.{IsSoundMoment, IsSoundAmount}
use Rattle.msg_parts.proofs.Lawful.{named}
use Rattle.msg_parts.proofs.ReadBack.{account_back, statuses_back}
use Rattle.msg_statement.specs.StatementDocuments.{line_documents, lines_documents, list_documents, balance_documents, body_documents, reply_documents, StatementRepliesReadBack}
use Rattle.msg_statement.specs.SoundStatements.{IsSoundLine, IsSoundList, IsSoundBody}
use Rattle.msg_statement.proofs.Replies.{body_found, body_by_code_again}
use Rattle.msg_statement.proofs.Lawful.{line_lawful, list_lawful, balance_lawful, body_lawful, reply_lawful}

-- ---- lines

line_back : (offset index : ℕ) (line : StatementLine) → IsSoundLine line → line_of (branch_item offset index (codes "STMTTRN") (line_documents line)) ≡ Ok line
unfolding line_of
line_back offset index line l =
    let inner = line_documents line in
    let lawful = line_lawful 0 line l in
    let item = branch_item offset index (codes "STMTTRN") inner in
    bind_to _ _ line.posted (moment_of_leaf (codes "DTPOSTED") line.posted _ _ item (named (codes "DTPOSTED") refl refl) l.posted (named_of_branch offset index 0 (codes "STMTTRN") (codes "DTPOSTED") inner lawful))
    ∙ bind_to _ _ line.amount (amount_of_leaf (codes "TRNAMT") line.amount _ _ item (named (codes "TRNAMT") refl refl) l.amount (named_of_branch offset index 0 (codes "STMTTRN") (codes "TRNAMT") inner lawful))
    ∙ bind_to _ _ line.number (number_of_leaf (codes "FITID") 10 line.number _ _ item (named (codes "FITID") refl refl) (omega arith) l.number (omega (arith, l.number)) (named_of_branch offset index 0 (codes "STMTTRN") (codes "FITID") inner lawful))

lines_back : (lines : List StatementLine) (offset index : ℕ) → AllByRecursion IsSoundLine lines → lines_of (items_of offset index (lines_documents lines)) ≡ Ok lines
unfolding lines_of
lines_back [] offset index h = refl
lines_back (line ∷ lines) offset index (h, more) =
    bind_to _ _ line (line_back offset index line h) ∙ bind_to _ (line_onto line) lines (lines_back lines _ _ more)

-- lines have one name
other_lines : (name : List ℕ) → bytes_eq (codes "STMTTRN") name ≡ false → (lines : List StatementLine) (offset index : ℕ) →
    filter (λ item. has_name name item) (items_of offset index (lines_documents lines)) ≡ []
other_lines name other [] offset index = refl
other_lines name other (line ∷ lines) offset index = rw other (other_lines name other lines _ _)

-- ---- lists

list_back : (offset index : ℕ) (list : StatementList) → IsSoundList list → list_of (branch_item offset index (codes "BANKTRANLIST") (list_documents list)) ≡ Ok list
unfolding list_of lines_of
list_back offset index list l =
    let inner = list_documents list in
    let lawful = list_lawful 1 list (omega arith) l in
    let item = branch_item offset index (codes "BANKTRANLIST") inner in
    let at : ℕ = offset + length (sheet.start_line (codes "BANKTRANLIST")) in
    let second : ℕ = at + length (sheet.element (codes "DTSTART") (moment_text list.start.0)) in
    let rest : ℕ = second + length (sheet.element (codes "DTEND") (moment_text list.end.0)) in
    let start : Item = leaf_item at (index + 1) (codes "DTSTART") (moment_text list.start.0) in
    let end : Item = leaf_item second (index + 1 + 1) (codes "DTEND") (moment_text list.end.0) in
    let only_start : IsOnly (codes "DTSTART") item start =
    named_of_branch offset index 1 (codes "BANKTRANLIST") (codes "DTSTART") inner lawful
    ∙ ap (λ (more : List Item). start ∷ more) (other_lines (codes "DTSTART") refl list.lines rest (index + 1 + 1 + 1)) in
    let only_end : IsOnly (codes "DTEND") item end =
    named_of_branch offset index 1 (codes "BANKTRANLIST") (codes "DTEND") inner lawful
    ∙ ap (λ (more : List Item). end ∷ more) (other_lines (codes "DTEND") refl list.lines rest (index + 1 + 1 + 1)) in
    let lines : lines_of (children item) ≡ Ok list.lines =
    ap lines_of (children_of_branch offset index (codes "BANKTRANLIST") inner) ∙ lines_back list.lines rest (index + 1 + 1 + 1) l.lines in
    bind_to _ _ list.start (moment_of_leaf (codes "DTSTART") list.start _ _ item (named (codes "DTSTART") refl refl) l.start only_start)
    ∙ bind_to _ _ list.end (moment_of_leaf (codes "DTEND") list.end _ _ item (named (codes "DTEND") refl refl) l.end only_end)
    ∙ bind_to _ _ list.lines lines

-- ---- balances

balance_back : (offset index : ℕ) (name : List ℕ) (amount : Cents) (moment : Moment) → IsSoundAmount amount → IsSoundMoment moment →
    balance_of (branch_item offset index name (balance_documents amount moment)) ≡ Ok (amount, moment)
unfolding balance_of
balance_back offset index name amount moment a m =
    let inner = balance_documents amount moment in
    let lawful = balance_lawful 0 amount moment a m in
    let item = branch_item offset index name inner in
    bind_to _ _ amount (amount_of_leaf (codes "BALAMT") amount _ _ item (named (codes "BALAMT") refl refl) a (named_of_branch offset index 0 name (codes "BALAMT") inner lawful))
    ∙ bind_to _ _ moment (moment_of_leaf (codes "DTASOF") moment _ _ item (named (codes "DTASOF") refl refl) m (named_of_branch offset index 0 name (codes "DTASOF") inner lawful))

-- ---- statements

body_with : AcctName → Option StatementList → Cents → Cents → Moment → StatementBody
body_with account list ledger available moment = record { account = account; list = list; ledger = ledger; available = available; moment = moment }

some_list : StatementList → Result (Option StatementList) TreeFault
some_list list = Ok (Some list)

with_list : (offset index : ℕ) (account : AcctName) (list : Option StatementList) (ledger available : Cents) (moment : Moment) →
    IsSoundBody (body_with account list ledger available moment) →
    body_of (branch_item offset index (codes "STMTRS") (body_documents (body_with account list ledger available moment))) ≡ Ok (body_with account list ledger available moment)
unfolding body_with body_of some_list
with_list offset index account None ledger available moment b =
    let inner = body_documents (body_with account None ledger available moment) in
    let lawful = body_lawful 2 (body_with account None ledger available moment) (omega arith) b in
    let item = branch_item offset index (codes "STMTRS") inner in
    bind_to _ _ _ (one_again (codes "BANKACCTFROM") item _ (named_of_branch offset index 2 (codes "STMTRS") (codes "BANKACCTFROM") inner lawful))
    ∙ bind_to _ _ account (account_back _ _ (codes "BANKACCTFROM") account b.account)
    ∙ bind_to _ _ None (none_again (codes "BANKTRANLIST") item (named_of_branch offset index 2 (codes "STMTRS") (codes "BANKTRANLIST") inner lawful))
    ∙ bind_to _ _ _ (one_again (codes "LEDGERBAL") item _ (named_of_branch offset index 2 (codes "STMTRS") (codes "LEDGERBAL") inner lawful))
    ∙ bind_to _ _ (ledger, moment) (balance_back _ _ (codes "LEDGERBAL") ledger moment b.ledger b.moment)
    ∙ bind_to _ _ _ (one_again (codes "AVAILBAL") item _ (named_of_branch offset index 2 (codes "STMTRS") (codes "AVAILBAL") inner lawful))
    ∙ bind_to _ _ (available, moment) (balance_back _ _ (codes "AVAILBAL") available moment b.available b.moment)
with_list offset index account (Some list) ledger available moment b =
    let inner = body_documents (body_with account (Some list) ledger available moment) in
    let lawful = body_lawful 2 (body_with account (Some list) ledger available moment) (omega arith) b in
    let item = branch_item offset index (codes "STMTRS") inner in
    bind_to _ _ _ (one_again (codes "BANKACCTFROM") item _ (named_of_branch offset index 2 (codes "STMTRS") (codes "BANKACCTFROM") inner lawful))
    ∙ bind_to _ _ account (account_back _ _ (codes "BANKACCTFROM") account b.account)
    ∙ bind_to _ _ _ (some_again (codes "BANKTRANLIST") item _ (named_of_branch offset index 2 (codes "STMTRS") (codes "BANKTRANLIST") inner lawful))
    ∙ bind_to _ _ (Some list) (bind_to _ some_list list (list_back _ _ list b.list))
    ∙ bind_to _ _ _ (one_again (codes "LEDGERBAL") item _ (named_of_branch offset index 2 (codes "STMTRS") (codes "LEDGERBAL") inner lawful))
    ∙ bind_to _ _ (ledger, moment) (balance_back _ _ (codes "LEDGERBAL") ledger moment b.ledger b.moment)
    ∙ bind_to _ _ _ (one_again (codes "AVAILBAL") item _ (named_of_branch offset index 2 (codes "STMTRS") (codes "AVAILBAL") inner lawful))
    ∙ bind_to _ _ (available, moment) (balance_back _ _ (codes "AVAILBAL") available moment b.available b.moment)

body_back : (offset index : ℕ) (body : StatementBody) → IsSoundBody body → body_of (branch_item offset index (codes "STMTRS") (body_documents body)) ≡ Ok body
unfolding body_with
body_back offset index body b = with_list offset index body.account body.list body.ledger body.available body.moment b

-- ---- replies

pub replies_back : StatementRepliesReadBack
unfolding statement_reply_of status_of
replies_back offset index trnuid code None r =
    let inner = reply_documents trnuid code None in
    let lawful = reply_lawful 3 trnuid code None (omega arith) r in
    let item = branch_item offset index (codes "STMTTRNRS") inner in
    bind_to _ _ trnuid (text_of_leaf (codes "TRNUID") trnuid 36 _ _ item lawful.0 r.is_uid.is_within (named_of_branch offset index 3 (codes "STMTTRNRS") (codes "TRNUID") inner lawful))
    ∙ bind_to _ _ code (bind_to _ code_of _ (one_again (codes "STATUS") item _ (named_of_branch offset index 3 (codes "STMTTRNRS") (codes "STATUS") inner lawful)) ∙ statuses_back _ _ code r.is_code)
    ∙ bind_to _ _ None (body_by_code_again code item None r.is_body)
replies_back offset index trnuid code (Some body) r =
    let inner = reply_documents trnuid code (Some body) in
    let lawful = reply_lawful 3 trnuid code (Some body) (omega arith) r in
    let item = branch_item offset index (codes "STMTTRNRS") inner in
    let only = named_of_branch offset index 3 (codes "STMTTRNRS") (codes "STMTRS") inner lawful in
    bind_to _ _ trnuid (text_of_leaf (codes "TRNUID") trnuid 36 _ _ item lawful.0 r.is_uid.is_within (named_of_branch offset index 3 (codes "STMTTRNRS") (codes "TRNUID") inner lawful))
    ∙ bind_to _ _ code (bind_to _ code_of _ (one_again (codes "STATUS") item _ (named_of_branch offset index 3 (codes "STMTTRNRS") (codes "STATUS") inner lawful)) ∙ statuses_back _ _ code r.is_code)
    ∙ bind_to _ _ (Some body) (body_by_code_again code item (Some body) (r.is_body.0, (_, only, body_found _ body (body_back _ _ body r.is_body.1))))
