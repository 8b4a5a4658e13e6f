-- The answer to a mail has its form exactly where reading finds it, and its faults have offsets.
use Rattle.std.proofs.Common.{◌≡◌, ◌≢◌, ℕ, inl, inr, Bool, true, false, cond, nat_eq, List, Option, None, Some, Result, Ok, Err, codes, refl, sym, ap, subst, ◌∙◌, arith}
use Rattle.std.proofs.lemmas.Grind.{common_steps}
use Rattle.ofx_types.specs.Nodes.{Item}
use Rattle.ofx_types.specs.FormWords.{has_name, one, text_in}
use Rattle.ofx_types.specs.MailForm.{IsBankMailRow, IsPlainMailRow, IsMailByCode, IsMailReplyNamed, IsMailReply}
use Rattle.ofx_types.specs.MailReading.{account_in, mail_of_user_in, mail_family_reported, bank_mail_row_of, plain_mail_row_of, mail_row_of, mail_by_code, mail_reply_of}
use Rattle.ofx_types.specs.ReplyReading.{status_of}
use Rattle.ofx_types.specs.declared.fault.TreeFault.{TreeFault}
use Rattle.ofx_types.specs.declared.account.AcctName.{AcctName}
use Rattle.ofx_types.specs.declared.mail.MailText.{MailText}
use Rattle.ofx_types.specs.declared.mail.MailRow.{MailRow}
use Rattle.ofx_types.specs.declared.transfer.Change.{Change}
use Rattle.ofx_types.specs.declared.transfer.Change.TheVariants.{NewMail}
use Rattle.ofx_types.specs.declared.transfer.Family.{Family}
use Rattle.ofx_types.specs.declared.transfer.Family.TheVariants.{Intra, RecIntra, BankMail, Mail}
use Rattle.ofx_types.specs.declared.transfer.DeedReply.{DeedReply}
use Rattle.ofx_types.proofs.Bytes.{went}
use Rattle.ofx_tree.specs.Located.{Holds, Any, IsWithin}
use Rattle.ofx_tree.proofs.FormLaws.{bind_ok, bind_to, one_value, one_found, one_again, text_in_found, text_in_again}
use Rattle.ofx_tree.proofs.FormOffsets.{bound, either, one_within, text_within}
use Rattle.msg_parts.proofs.Named.{two_named}
use Rattle.msg_parts.proofs.Statuses.{status_found, status_again, status_within}
use Rattle.msg_mail.proofs.MailParts.{account_in_found, account_in_again, account_in_within, user_mail_in_found, user_mail_in_again, user_mail_in_within}

-- ---- the two replies

bank_row_found : (code : ℕ) (transaction : Item) (change : Change) → code ≡ 0 → bank_mail_row_of transaction ≡ Ok change →
    IsMailByCode code BankMail transaction (Some change)
unfolding bank_mail_row_of
bank_row_found code transaction change zero h =
    let reply = bind_ok (one (codes "BANKMAILRS") transaction) _ change h in
    let account = bind_ok (account_in reply.0) _ change reply.2 in
    let mail = bind_ok (mail_of_user_in reply.0) _ change account.2 in
    let P : Change → Type 0 = λ reported. IsMailByCode code BankMail transaction (Some reported) in
    subst P (one_value _ _ change refl mail.2) (
      zero,
      (
        reply.0,
        one_found (codes "BANKMAILRS") transaction reply.0 reply.1,
        (account.0, refl, account_in_found reply.0 account.0 account.1, user_mail_in_found reply.0 mail.0.0 mail.0.1 mail.1),
      ),
    )

plain_row_found : (code : ℕ) (transaction : Item) (change : Change) → code ≡ 0 → plain_mail_row_of transaction ≡ Ok change →
    IsMailByCode code Mail transaction (Some change)
unfolding plain_mail_row_of
plain_row_found code transaction change zero h =
    let reply = bind_ok (one (codes "MAILRS") transaction) _ change h in
    let mail = bind_ok (mail_of_user_in reply.0) _ change reply.2 in
    let P : Change → Type 0 = λ reported. IsMailByCode code Mail transaction (Some reported) in
    subst P (one_value _ _ change refl mail.2)
    (zero, (reply.0, one_found (codes "MAILRS") transaction reply.0 reply.1, refl, user_mail_in_found reply.0 mail.0.0 mail.0.1 mail.1))

-- the mail that a reply tells
abbrev row_reported : List ℕ → MailText → Option AcctName → Result Change TreeFault
row_reported user text about = Ok (NewMail (record { about = about; user = user; mail = text }))

bank_row_again : (transaction : Item) (row : MailRow) → transaction.node.name ≡ codes "BANKMAILTRNRS" → IsBankMailRow transaction row →
    mail_row_of transaction ≡ Ok (NewMail row)
unfolding mail_row_of bank_mail_row_of
bank_row_again transaction row name (reply, only, (account, about, has_account, mail)) =
    let is : has_name (codes "BANKMAILTRNRS") transaction ≡ true = rw name refl in
    rw is (
    bind_to _ _ reply (one_again (codes "BANKMAILRS") transaction reply only)
    ∙ bind_to _ _ account (account_in_again reply account has_account)
    ∙ bind_to _ _ (row.user, row.mail) (user_mail_in_again reply row.user row.mail mail)
    ∙ ap (row_reported row.user row.mail) (sym about)
    )

plain_row_again : (transaction : Item) (row : MailRow) → transaction.node.name ≡ codes "MAILTRNRS" → IsPlainMailRow transaction row →
    mail_row_of transaction ≡ Ok (NewMail row)
unfolding mail_row_of plain_mail_row_of
plain_row_again transaction row name (reply, only, about, mail) =
    let other : has_name (codes "BANKMAILTRNRS") transaction ≡ false = rw name refl in
    rw other (
    bind_to _ _ reply (one_again (codes "MAILRS") transaction reply only)
    ∙ bind_to _ _ (row.user, row.mail) (user_mail_in_again reply row.user row.mail mail)
    ∙ ap (row_reported row.user row.mail) (sym about)
    )

bank_row_within : (most : ℕ) (transaction : Item) → IsWithin most transaction → Holds most Any (bank_mail_row_of transaction)
unfolding bank_mail_row_of
bank_row_within most transaction h =
    bound most (IsWithin most) Any (one (codes "BANKMAILRS") transaction) _ (one_within most (codes "BANKMAILRS") transaction h) (λ reply r.
    bound most Any Any (account_in reply) _ (account_in_within most reply r) (λ account _.
    bound most Any Any (mail_of_user_in reply) _ (user_mail_in_within most reply r) (λ mail _. tt)))

plain_row_within : (most : ℕ) (transaction : Item) → IsWithin most transaction → Holds most Any (plain_mail_row_of transaction)
unfolding plain_mail_row_of
plain_row_within most transaction h =
    bound most (IsWithin most) Any (one (codes "MAILRS") transaction) _ (one_within most (codes "MAILRS") transaction h) (λ reply r.
    bound most Any Any (mail_of_user_in reply) _ (user_mail_in_within most reply r) (λ mail _. tt))

row_within : (most : ℕ) (transaction : Item) → IsWithin most transaction → Holds most Any (mail_row_of transaction)
unfolding mail_row_of
row_within most transaction h =
    either most Any (has_name (codes "BANKMAILTRNRS") transaction) _ _ (bank_row_within most transaction h) (plain_row_within most transaction h)

-- ---- a mail where the code is 0

zero_of : (code : ℕ) → nat_eq code 0 ≡ true → code ≡ 0
zero_of code is = grind (arith, common_steps, is)

no_zero_of : (code : ℕ) → nat_eq code 0 ≡ false → code ≢ 0
no_zero_of code other zero = absurd (grind (arith, common_steps, other, zero))

is_zero : (code : ℕ) → code ≡ 0 → nat_eq code 0 ≡ true
is_zero code zero = grind (arith, common_steps, zero)

is_no_zero : (code : ℕ) → code ≢ 0 → nat_eq code 0 ≡ false
is_no_zero code some = grind (arith, common_steps)

-- the mail and the family of a transaction, by whether it is about an account
abbrev family_by : Bool → Family
family_by is_bank = cond is_bank BankMail Mail

abbrev row_by : Bool → Item → Result Change TreeFault
row_by is_bank transaction = cond is_bank (bank_mail_row_of transaction) (plain_mail_row_of transaction)

row_by_found : (is_bank : Bool) (code : ℕ) (transaction : Item) (change : Change) → code ≡ 0 → row_by is_bank transaction ≡ Ok change →
    IsMailByCode code (family_by is_bank) transaction (Some change)
row_by_found true code transaction change zero h = bank_row_found code transaction change zero h
row_by_found false code transaction change zero h = plain_row_found code transaction change zero h

none_by : (is_bank : Bool) (code : ℕ) (transaction : Item) → code ≢ 0 → IsMailByCode code (family_by is_bank) transaction None
none_by true code transaction some = some
none_by false code transaction some = some

by_code_found : (code : ℕ) (transaction : Item) (change : Option Change) → mail_by_code code transaction ≡ Ok change →
    IsMailByCode code (family_by (has_name (codes "BANKMAILTRNRS") transaction)) transaction change
unfolding mail_by_code mail_row_of
by_code_found code transaction change h =
    let is_bank = has_name (codes "BANKMAILTRNRS") transaction in
    let By : Option Change → Type 0 = IsMailByCode code (family_by is_bank) transaction in
    elim (went (nat_eq code 0) _ _ _ h) [
      | inl (is, read) ↦
          let row = bind_ok (row_by is_bank transaction) _ change read in
          subst By (one_value _ _ change refl row.2) (row_by_found is_bank code transaction row.0 (zero_of code is) row.1)
      | inr (other, none) ↦ subst By (one_value _ _ change refl none) (none_by is_bank code transaction (no_zero_of code other))
    ]

by_code_again : (code : ℕ) (family : Family) (transaction : Item) (change : Option Change) → IsMailReplyNamed transaction family →
    IsMailByCode code family transaction change → mail_by_code code transaction ≡ Ok change
unfolding mail_by_code
by_code_again code BankMail transaction None name some = rw (is_no_zero code some) refl
by_code_again code BankMail transaction (Some (NewMail row)) name (zero, is) =
    rw (is_zero code zero) (bind_to (mail_row_of transaction) _ (NewMail row) (bank_row_again transaction row name is))
by_code_again code BankMail transaction (Some change) name is = absurd is
by_code_again code Mail transaction None name some = rw (is_no_zero code some) refl
by_code_again code Mail transaction (Some (NewMail row)) name (zero, is) =
    rw (is_zero code zero) (bind_to (mail_row_of transaction) _ (NewMail row) (plain_row_again transaction row name is))
by_code_again code Mail transaction (Some change) name is = absurd is
by_code_again code Intra transaction change name is = absurd name
by_code_again code RecIntra transaction change name is = absurd name

by_code_within : (most code : ℕ) (transaction : Item) → IsWithin most transaction → Holds most Any (mail_by_code code transaction)
unfolding mail_by_code
by_code_within most code transaction h =
    either most Any (nat_eq code 0) _ _ (bound most Any Any (mail_row_of transaction) _ (row_within most transaction h) (λ change _. tt)) tt

-- ---- the transaction

-- its name says what it belongs to
reported_by : (is_bank is_mail : Bool) (fault : TreeFault) (family : Family) →
    cond is_bank (Ok BankMail) (cond is_mail (Ok Mail) (Err fault)) ≡ Ok family → family_by is_bank ≡ family
reported_by true is_mail fault family h = cc
reported_by false true fault family h = cc
reported_by false false fault family h = cc

reported_again : (transaction : Item) (family : Family) → IsMailReplyNamed transaction family → mail_family_reported transaction ≡ Ok family
reported_again transaction BankMail name = rw name refl
reported_again transaction Mail name = rw name refl
reported_again transaction Intra name = absurd name
reported_again transaction RecIntra name = absurd name

pub reply_found : (transaction : Item) (reply : DeedReply) → mail_reply_of transaction ≡ Ok reply → IsMailReply transaction reply
unfolding mail_reply_of
reply_found transaction reply h =
    let family = bind_ok (mail_family_reported transaction) _ reply h in
    let trnuid = bind_ok (text_in (codes "TRNUID") 36 transaction) _ reply family.2 in
    let code = bind_ok (status_of transaction) _ reply trnuid.2 in
    let change = bind_ok (mail_by_code code.0 transaction) _ reply code.2 in
    let By : Family → Type 0 = λ f. IsMailByCode code.0 f transaction change.0 in
    let reported = reported_by (has_name (codes "BANKMAILTRNRS") transaction) (has_name (codes "MAILTRNRS") transaction) _ family.0 family.1 in
    subst (IsMailReply transaction) (one_value _ _ reply refl change.2) (record {
      is_named = two_named (IsMailReplyNamed transaction) transaction.node.name (codes "BANKMAILTRNRS") (codes "MAILTRNRS") BankMail Mail family.0 _ (λ is. is) (λ is. is) family.1;
      has_trnuid = text_in_found (codes "TRNUID") 36 transaction trnuid.0 trnuid.1;
      has_status = status_found transaction code.0 code.1;
      is_change = subst By reported (by_code_found code.0 transaction change.0 change.1);
    })

pub reply_again : (transaction : Item) (reply : DeedReply) → IsMailReply transaction reply → mail_reply_of transaction ≡ Ok reply
unfolding mail_reply_of
reply_again transaction reply r =
    bind_to (mail_family_reported transaction) _ reply.family (reported_again transaction reply.family r.is_named)
    ∙ bind_to _ _ reply.trnuid (text_in_again (codes "TRNUID") 36 transaction reply.trnuid r.has_trnuid)
    ∙ bind_to _ _ reply.code (status_again transaction reply.code r.has_status)
    ∙ bind_to _ _ reply.change (by_code_again reply.code reply.family transaction reply.change r.is_named r.is_change)

reported_within : (most : ℕ) (transaction : Item) → IsWithin most transaction → Holds most Any (mail_family_reported transaction)
reported_within most transaction h =
    either most Any (has_name (codes "BANKMAILTRNRS") transaction) _ _ tt (either most Any (has_name (codes "MAILTRNRS") transaction) _ _ tt h.offset)

pub reply_within : (most : ℕ) (transaction : Item) → IsWithin most transaction → Holds most Any (mail_reply_of transaction)
unfolding mail_reply_of
reply_within most transaction h =
    bound most Any Any (mail_family_reported transaction) _ (reported_within most transaction h) (λ family _.
    bound most Any Any (text_in (codes "TRNUID") 36 transaction) _ (text_within most (codes "TRNUID") 36 transaction h) (λ trnuid _.
    bound most Any Any (status_of transaction) _ (status_within most transaction h) (λ code _.
    bound most Any Any (mail_by_code code transaction) _ (by_code_within most code transaction h) (λ change _. tt))))
