-- Sound statement requests read back as they were written.
use Rattle.std.proofs.Common.{◌≡◌, ℕ, ◌+◌, Bool, length, codes, Option, None, Some, Ok, refl, ◌∙◌, arith}
use Rattle.std.specs.Option.{IfSome}
use Rattle.ofx_types.specs.FormWords.{◌>>=◌, IsOnly, maybe}
use Rattle.ofx_types.specs.Nodes.{Item}
use Rattle.ofx_types.specs.RequestReading.{trnuid_of, period_of, period_in, statement_of}
use Rattle.ofx_types.specs.Sheet as sheet
use Rattle.ofx_types.specs.declared.account.AcctName.{AcctName}
use Rattle.ofx_types.specs.declared.number.Moment.{Moment}
use Rattle.ofx_types.specs.declared.request.Period.{Period}
use Rattle.ofx_tree.specs.Documents.{AreLawful, branch_item}
use Rattle.ofx_tree.proofs.FormLaws.{bind_to, one_again, none_again, some_again, maybe_moment_in_again}
use Rattle.ofx_tree.proofs.DocumentItems.{named_of_branch}
use Rattle.ofx_tree.proofs.Leaves.{text_of_leaf, flag_of_leaf, maybe_moment_of_leaf}
use Rattle.msg_parts.specs.PartDocuments.{account_documents}
use Rattle.msg_parts.proofs.AccountLaws.{unless_zero_again}
use Rattle.msg_parts.proofs.Lawful.{named}
use Rattle.msg_parts.proofs.ReadBack.{account_back}
use Rattle.msg_statement.specs.StatementDocuments.{period_documents, asked_documents, statement_documents, StatementsReadBack}
use Rattle.msg_statement.specs.SoundStatements.{IsSoundPeriod}
use Rattle.msg_statement.proofs.StatementLaws.{bind_two}
use Rattle.msg_statement.proofs.Lawful.{period_lawful, asked_lawful, statement_lawful}

-- ---- periods

period_with : Option Moment → Option Moment → Bool → Period
period_with start end include = record { start = start; end = end; include = include }

bounded_back : (offset index : ℕ) (start end : Option Moment) (include : Bool) → IsSoundPeriod (period_with start end include) →
    period_of (branch_item offset index (codes "INCTRAN") (period_documents (period_with start end include))) ≡ Ok (period_with start end include)
unfolding period_with period_of
bounded_back offset index None None include p =
    let inner = period_documents (period_with None None include) in
    let lawful = period_lawful 0 (period_with None None include) p in
    let item = branch_item offset index (codes "INCTRAN") inner in
    bind_to _ _ None (maybe_moment_in_again (codes "DTSTART") item None (named_of_branch offset index 0 (codes "INCTRAN") (codes "DTSTART") inner lawful))
    ∙ bind_to _ _ None (maybe_moment_in_again (codes "DTEND") item None (named_of_branch offset index 0 (codes "INCTRAN") (codes "DTEND") inner lawful))
    ∙ bind_to _ _ include (flag_of_leaf (codes "INCLUDE") include _ _ item (named (codes "INCLUDE") refl refl) (named_of_branch offset index 0 (codes "INCTRAN") (codes "INCLUDE") inner lawful))
bounded_back offset index None (Some end) include p =
    let inner = period_documents (period_with None (Some end) include) in
    let lawful = period_lawful 0 (period_with None (Some end) include) p in
    let item = branch_item offset index (codes "INCTRAN") inner in
    bind_to _ _ None (maybe_moment_in_again (codes "DTSTART") item None (named_of_branch offset index 0 (codes "INCTRAN") (codes "DTSTART") inner lawful))
    ∙ bind_to _ _ (Some end) (maybe_moment_of_leaf (codes "DTEND") end _ _ item (named (codes "DTEND") refl refl) p.end (named_of_branch offset index 0 (codes "INCTRAN") (codes "DTEND") inner lawful))
    ∙ bind_to _ _ include (flag_of_leaf (codes "INCLUDE") include _ _ item (named (codes "INCLUDE") refl refl) (named_of_branch offset index 0 (codes "INCTRAN") (codes "INCLUDE") inner lawful))
bounded_back offset index (Some start) None include p =
    let inner = period_documents (period_with (Some start) None include) in
    let lawful = period_lawful 0 (period_with (Some start) None include) p in
    let item = branch_item offset index (codes "INCTRAN") inner in
    bind_to _ _ (Some start) (maybe_moment_of_leaf (codes "DTSTART") start _ _ item (named (codes "DTSTART") refl refl) p.start (named_of_branch offset index 0 (codes "INCTRAN") (codes "DTSTART") inner lawful))
    ∙ bind_to _ _ None (maybe_moment_in_again (codes "DTEND") item None (named_of_branch offset index 0 (codes "INCTRAN") (codes "DTEND") inner lawful))
    ∙ bind_to _ _ include (flag_of_leaf (codes "INCLUDE") include _ _ item (named (codes "INCLUDE") refl refl) (named_of_branch offset index 0 (codes "INCTRAN") (codes "INCLUDE") inner lawful))
bounded_back offset index (Some start) (Some end) include p =
    let inner = period_documents (period_with (Some start) (Some end) include) in
    let lawful = period_lawful 0 (period_with (Some start) (Some end) include) p in
    let item = branch_item offset index (codes "INCTRAN") inner in
    bind_to _ _ (Some start) (maybe_moment_of_leaf (codes "DTSTART") start _ _ item (named (codes "DTSTART") refl refl) p.start (named_of_branch offset index 0 (codes "INCTRAN") (codes "DTSTART") inner lawful))
    ∙ bind_to _ _ (Some end) (maybe_moment_of_leaf (codes "DTEND") end _ _ item (named (codes "DTEND") refl refl) p.end (named_of_branch offset index 0 (codes "INCTRAN") (codes "DTEND") inner lawful))
    ∙ bind_to _ _ include (flag_of_leaf (codes "INCLUDE") include _ _ item (named (codes "INCLUDE") refl refl) (named_of_branch offset index 0 (codes "INCTRAN") (codes "INCLUDE") inner lawful))

period_back : (offset index : ℕ) (period : Period) → IsSoundPeriod period →
    period_of (branch_item offset index (codes "INCTRAN") (period_documents period)) ≡ Ok period
unfolding period_with
period_back offset index period p = bounded_back offset index period.start period.end period.include p

-- ---- what a statement request asks

abbrev asked_item : ℕ → ℕ → AcctName → Option Period → Item
asked_item offset index account period = branch_item offset index (codes "STMTRQ") (asked_documents account period)

abbrev account_item : ℕ → ℕ → AcctName → Item
account_item offset index account = branch_item (offset + length (sheet.start_line (codes "STMTRQ"))) (index + 1) (codes "BANKACCTFROM") (account_documents account)

only_account : (offset index : ℕ) (account : AcctName) (period : Option Period) → AreLawful 1 (asked_documents account period) →
    IsOnly (codes "BANKACCTFROM") (asked_item offset index account period) (account_item offset index account)
only_account offset index account None lawful = named_of_branch offset index 1 (codes "STMTRQ") (codes "BANKACCTFROM") (asked_documents account None) lawful
only_account offset index account (Some period) lawful =
    named_of_branch offset index 1 (codes "STMTRQ") (codes "BANKACCTFROM") (asked_documents account (Some period)) lawful

asked_period : (offset index : ℕ) (account : AcctName) (period : Option Period) → AreLawful 1 (asked_documents account period) → IfSome period IsSoundPeriod →
    (maybe (codes "INCTRAN") (asked_item offset index account period) >>= period_in) ≡ Ok period
asked_period offset index account None lawful p =
    bind_to _ _ None (none_again (codes "INCTRAN") (asked_item offset index account None) (named_of_branch offset index 1 (codes "STMTRQ") (codes "INCTRAN") (asked_documents account None) lawful))
asked_period offset index account (Some period) lawful p =
    bind_to _ period_in _ (some_again (codes "INCTRAN") (asked_item offset index account (Some period)) _ (named_of_branch offset index 1 (codes "STMTRQ") (codes "INCTRAN") (asked_documents account (Some period)) lawful))
    ∙ bind_to _ _ period (period_back _ _ period p)

-- ---- statement requests

pub statements_back : StatementsReadBack
unfolding statement_of trnuid_of
statements_back offset index trnuid account period s =
    let inner = statement_documents trnuid account period in
    let lawful = statement_lawful 2 trnuid account period (omega arith) s in
    let item = branch_item offset index (codes "STMTTRNRQ") inner in
    let at : ℕ = offset + length (sheet.start_line (codes "STMTTRNRQ")) + length (sheet.element (codes "TRNUID") trnuid) in
    let asked = asked_lawful 1 account period (omega arith) s.is_account s.is_period in
    let only = named_of_branch offset index 2 (codes "STMTTRNRQ") (codes "TRNUID") inner lawful in
    bind_to (trnuid_of item) _ trnuid
    (bind_to _ _ trnuid (text_of_leaf (codes "TRNUID") trnuid 36 _ _ item lawful.0 s.is_uid.is_within only)
    ∙ bind_to _ _ _ (one_again (codes "TRNUID") item _ only) ∙ unless_zero_again _ trnuid s.is_own)
    ∙ bind_to _ _ _ (one_again (codes "STMTRQ") item (asked_item at (index + 1 + 1) account period) (named_of_branch offset index 2 (codes "STMTTRNRQ") (codes "STMTRQ") inner lawful))
    ∙ bind_to _ _ _ (one_again (codes "BANKACCTFROM") (asked_item at (index + 1 + 1) account period) _ (only_account at (index + 1 + 1) account period asked))
    ∙ bind_to _ _ account (account_back _ _ (codes "BANKACCTFROM") account s.is_account)
    ∙ bind_two (maybe (codes "INCTRAN") (asked_item at (index + 1 + 1) account period)) period_in _ period (asked_period at (index + 1 + 1) account period asked s.is_period)
