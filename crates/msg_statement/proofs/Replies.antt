-- A statement reply has its form exactly where reading finds it, and its faults have offsets.
use Rattle.std.proofs.Common.{◌≡◌, ◌≢◌, ℕ, inl, inr, true, false, nat_eq, Option, None, Some, Ok, codes, refl, sym, ap, subst, ◌∙◌, arith}
use Rattle.std.proofs.lemmas.Grind.{common_steps}
use Rattle.std.specs.Option.{IfSome}
use Rattle.ofx_types.specs.Nodes.{Item}
use Rattle.ofx_types.specs.FormWords.{one, maybe, text_in, amount_in, moment_in, IsAmountIn, IsMomentIn}
use Rattle.ofx_types.specs.RequestReading.{account_of}
use Rattle.ofx_types.specs.ReplyGrammar.{IsStatementBody, IsBodyByCode, IsStatementReply}
use Rattle.ofx_types.specs.ReplyReading.{status_of, list_in, balance_of, body_of, body_by_code, statement_reply_of}
use Rattle.ofx_types.specs.declared.number.Cents.{Cents}
use Rattle.ofx_types.specs.declared.number.Moment.{Moment}
use Rattle.ofx_types.specs.declared.reply.StatementBody.{StatementBody}
use Rattle.ofx_types.specs.declared.reply.AskReply.{AskReply}
use Rattle.ofx_types.proofs.Bytes.{went}
use Rattle.ofx_tree.specs.Located.{Holds, Any, IsWithin}
use Rattle.ofx_tree.proofs.FormLaws.{bind_ok, bind_to, one_value, one_found, one_again, text_in_found, text_in_again, amount_in_found, amount_in_again, moment_in_found, moment_in_again}
use Rattle.ofx_tree.proofs.FormOffsets.{bound, either, one_within, maybe_within, text_within, amount_within, moment_within}
use Rattle.msg_parts.proofs.PartLaws.{account_found, account_again}
use Rattle.msg_parts.proofs.PartOffsets.{account_within}
use Rattle.msg_parts.proofs.Statuses.{status_found, status_again, status_within}
use Rattle.msg_statement.proofs.StatementLaws.{bind_two}
use Rattle.msg_statement.proofs.Lists.{maybe_list_found, maybe_list_again, maybe_list_within}

-- ---- balances

balance_found : (balance : Item) (said : Cents × Moment) → balance_of balance ≡ Ok said →
    IsAmountIn (codes "BALAMT") balance said.0 × IsMomentIn (codes "DTASOF") balance said.1
unfolding balance_of
balance_found balance said h =
    let amount = bind_ok (amount_in (codes "BALAMT") balance) _ said h in
    let moment = bind_ok (moment_in (codes "DTASOF") balance) _ said amount.2 in
    let P : Cents × Moment → Type 0 = λ s. IsAmountIn (codes "BALAMT") balance s.0 × IsMomentIn (codes "DTASOF") balance s.1 in
    subst P (one_value _ _ said refl moment.2)
    (amount_in_found (codes "BALAMT") balance amount.0 amount.1, moment_in_found (codes "DTASOF") balance moment.0 moment.1)

balance_again : (balance : Item) (amount : Cents) (moment : Moment) → IsAmountIn (codes "BALAMT") balance amount →
    IsMomentIn (codes "DTASOF") balance moment → balance_of balance ≡ Ok (amount, moment)
unfolding balance_of
balance_again balance amount moment a m =
    bind_to _ _ amount (amount_in_again (codes "BALAMT") balance amount a)
    ∙ bind_to _ _ moment (moment_in_again (codes "DTASOF") balance moment m)

balance_within : (most : ℕ) (balance : Item) → IsWithin most balance → Holds most Any (balance_of balance)
unfolding balance_of
balance_within most balance h =
    bound most Any Any (amount_in (codes "BALAMT") balance) _ (amount_within most (codes "BALAMT") balance h) (λ amount _.
    bound most Any Any (moment_in (codes "DTASOF") balance) _ (moment_within most (codes "DTASOF") balance h) (λ moment _. tt))

-- ---- statements

pub body_found : (stmtrs : Item) (body : StatementBody) → body_of stmtrs ≡ Ok body → IsStatementBody stmtrs body
unfolding body_of
body_found stmtrs body h =
    let from = bind_ok (one (codes "BANKACCTFROM") stmtrs) _ body h in
    let account = bind_ok (account_of from.0) _ body from.2 in
    let banktranlist = bind_ok (maybe (codes "BANKTRANLIST") stmtrs) _ body account.2 in
    let list = bind_ok (list_in banktranlist.0) _ body banktranlist.2 in
    let ledgerbal = bind_ok (one (codes "LEDGERBAL") stmtrs) _ body list.2 in
    let ledger = bind_ok (balance_of ledgerbal.0) _ body ledgerbal.2 in
    let availbal = bind_ok (one (codes "AVAILBAL") stmtrs) _ body ledger.2 in
    let available = bind_ok (balance_of availbal.0) _ body availbal.2 in
    let of_ledger = balance_found ledgerbal.0 ledger.0 ledger.1 in
    let of_available = balance_found availbal.0 available.0 available.1 in
    let P : StatementBody → Type 0 = λ b. IsStatementBody stmtrs b in
    subst P (one_value _ _ body refl available.2) (record {
      bankacctfrom = from.0;
      has_account = one_found (codes "BANKACCTFROM") stmtrs from.0 from.1;
      is_account = account_found from.0 account.0 account.1;
      is_list = maybe_list_found stmtrs banktranlist.0 list.0 banktranlist.1 list.1;
      is_ledger = record {
        balance = ledgerbal.0;
        has_balance = one_found (codes "LEDGERBAL") stmtrs ledgerbal.0 ledgerbal.1;
        has_amount = of_ledger.0;
        has_moment = of_ledger.1;
      };
      other = available.0.1;
      is_available = record {
        balance = availbal.0;
        has_balance = one_found (codes "AVAILBAL") stmtrs availbal.0 availbal.1;
        has_amount = of_available.0;
        has_moment = of_available.1;
      };
    })

body_again : (stmtrs : Item) (body : StatementBody) → IsStatementBody stmtrs body → body_of stmtrs ≡ Ok body
unfolding body_of
body_again stmtrs body b =
    bind_to _ _ b.bankacctfrom (one_again (codes "BANKACCTFROM") stmtrs b.bankacctfrom b.has_account)
    ∙ bind_to _ _ body.account (account_again b.bankacctfrom body.account b.is_account)
    ∙ bind_two (maybe (codes "BANKTRANLIST") stmtrs) list_in _ body.list (maybe_list_again stmtrs body.list b.is_list)
    ∙ bind_to _ _ b.is_ledger.balance (one_again (codes "LEDGERBAL") stmtrs b.is_ledger.balance b.is_ledger.has_balance)
    ∙ bind_to _ _ (body.ledger, body.moment) (balance_again b.is_ledger.balance body.ledger body.moment b.is_ledger.has_amount b.is_ledger.has_moment)
    ∙ bind_to _ _ b.is_available.balance (one_again (codes "AVAILBAL") stmtrs b.is_available.balance b.is_available.has_balance)
    ∙ bind_to _ _ (body.available, b.other) (balance_again b.is_available.balance body.available b.other b.is_available.has_amount b.is_available.has_moment)

body_within : (most : ℕ) (stmtrs : Item) → IsWithin most stmtrs → Holds most Any (body_of stmtrs)
unfolding body_of
body_within most stmtrs h =
    bound most (IsWithin most) Any (one (codes "BANKACCTFROM") stmtrs) _ (one_within most (codes "BANKACCTFROM") stmtrs h) (λ from f.
    bound most Any Any (account_of from) _ (account_within most from f) (λ account _.
    bound most (λ found. IfSome found (IsWithin most)) Any (maybe (codes "BANKTRANLIST") stmtrs) _ (maybe_within most (codes "BANKTRANLIST") stmtrs h) (λ banktranlist b.
    bound most Any Any (list_in banktranlist) _ (maybe_list_within most banktranlist b) (λ list _.
    bound most (IsWithin most) Any (one (codes "LEDGERBAL") stmtrs) _ (one_within most (codes "LEDGERBAL") stmtrs h) (λ ledgerbal l.
    bound most Any Any (balance_of ledgerbal) _ (balance_within most ledgerbal l) (λ ledger _.
    bound most (IsWithin most) Any (one (codes "AVAILBAL") stmtrs) _ (one_within most (codes "AVAILBAL") stmtrs h) (λ availbal a.
    bound most Any Any (balance_of availbal) _ (balance_within most availbal a) (λ available _. tt))))))))

-- ---- a statement where the code is 0

body_by_code_found : (code : ℕ) (stmttrnrs : Item) (body : Option StatementBody) → body_by_code code stmttrnrs ≡ Ok body →
    IsBodyByCode code stmttrnrs body
unfolding body_by_code
body_by_code_found code stmttrnrs body h = elim (went (nat_eq code 0) _ _ _ h) [
  | inl (is, read) ↦
      let zero : code ≡ 0 = grind (arith, common_steps, is) in
      let stmtrs = bind_ok (one (codes "STMTRS") stmttrnrs) _ body read in
      let found = bind_ok (body_of stmtrs.0) _ body stmtrs.2 in
      let P : Option StatementBody → Type 0 = λ b. IsBodyByCode code stmttrnrs b in
      subst P (one_value _ _ body refl found.2) (zero, (stmtrs.0, one_found (codes "STMTRS") stmttrnrs stmtrs.0 stmtrs.1, body_found stmtrs.0 found.0 found.1))
  | inr (other, none) ↦
      let some : code ≢ 0 = λ zero. absurd (grind (arith, common_steps, other, zero)) in
      let P : Option StatementBody → Type 0 = λ b. IsBodyByCode code stmttrnrs b in
      subst P (one_value _ _ body refl none) some
]

pub body_by_code_again : (code : ℕ) (stmttrnrs : Item) (body : Option StatementBody) → IsBodyByCode code stmttrnrs body →
    body_by_code code stmttrnrs ≡ Ok body
unfolding body_by_code
body_by_code_again code stmttrnrs None some = let other : nat_eq code 0 ≡ false = grind (arith, common_steps) in rw other refl
body_by_code_again code stmttrnrs (Some body) (zero, (stmtrs, only, is)) =
    let same : nat_eq code 0 ≡ true = grind (arith, common_steps, zero) in
    rw same (bind_to _ _ stmtrs (one_again (codes "STMTRS") stmttrnrs stmtrs only) ∙ bind_to _ _ body (body_again stmtrs body is))

body_by_code_within : (most code : ℕ) (stmttrnrs : Item) → IsWithin most stmttrnrs → Holds most Any (body_by_code code stmttrnrs)
unfolding body_by_code
body_by_code_within most code stmttrnrs h =
    either most Any (nat_eq code 0) _ _
    (bound most (IsWithin most) Any (one (codes "STMTRS") stmttrnrs) _ (one_within most (codes "STMTRS") stmttrnrs h) (λ stmtrs s.
    bound most Any Any (body_of stmtrs) _ (body_within most stmtrs s) (λ body _. tt)))
    tt

-- ---- replies

pub reply_found : (stmttrnrs : Item) (reply : AskReply) → statement_reply_of stmttrnrs ≡ Ok reply → IsStatementReply stmttrnrs reply
unfolding statement_reply_of
reply_found stmttrnrs reply h =
    let trnuid = bind_ok (text_in (codes "TRNUID") 36 stmttrnrs) _ reply h in
    let code = bind_ok (status_of stmttrnrs) _ reply trnuid.2 in
    let body = bind_ok (body_by_code code.0 stmttrnrs) _ reply code.2 in
    record {
      trnuid = trnuid.0;
      code = code.0;
      body = body.0;
      has_trnuid = text_in_found (codes "TRNUID") 36 stmttrnrs trnuid.0 trnuid.1;
      has_status = status_found stmttrnrs code.0 code.1;
      is_body = body_by_code_found code.0 stmttrnrs body.0 body.1;
      is_reply = one_value _ reply _ body.2 refl;
    }

pub reply_again : (stmttrnrs : Item) (reply : AskReply) → IsStatementReply stmttrnrs reply → statement_reply_of stmttrnrs ≡ Ok reply
unfolding statement_reply_of
reply_again stmttrnrs reply r =
    bind_to _ _ r.trnuid (text_in_again (codes "TRNUID") 36 stmttrnrs r.trnuid r.has_trnuid)
    ∙ bind_to _ _ r.code (status_again stmttrnrs r.code r.has_status)
    ∙ bind_to _ _ r.body (body_by_code_again r.code stmttrnrs r.body r.is_body)
    ∙ ap Ok (sym r.is_reply)

pub reply_within : (most : ℕ) (stmttrnrs : Item) → IsWithin most stmttrnrs → Holds most Any (statement_reply_of stmttrnrs)
unfolding statement_reply_of
reply_within most stmttrnrs h =
    bound most Any Any (text_in (codes "TRNUID") 36 stmttrnrs) _ (text_within most (codes "TRNUID") 36 stmttrnrs h) (λ trnuid _.
    bound most Any Any (status_of stmttrnrs) _ (status_within most stmttrnrs h) (λ code _.
    bound most Any Any (body_by_code code stmttrnrs) _ (body_by_code_within most code stmttrnrs h) (λ body _. tt)))
