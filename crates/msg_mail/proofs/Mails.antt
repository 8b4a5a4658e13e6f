-- The request of a mail has its form exactly where reading finds it, and its faults have offsets.
use Rattle.std.proofs.Common.{◌≡◌, ℕ, inl, inr, true, false, List, Ok, codes, refl, subst, ◌∙◌}
use Rattle.ofx_types.specs.Nodes.{Item}
use Rattle.ofx_types.specs.FormWords.{has_name, one}
use Rattle.ofx_types.specs.MailForm.{IsMailRequest, IsMailDeed}
use Rattle.ofx_types.specs.MailReading.{account_in, mail_in, bank_mail_of, plain_mail_of, mail_request_of, mail_deed_of}
use Rattle.ofx_types.specs.RequestReading.{trnuid_of}
use Rattle.ofx_types.specs.declared.transfer.Deed.{Deed}
use Rattle.ofx_types.specs.declared.transfer.Deed.TheVariants as deeds
use Rattle.ofx_types.proofs.Bytes.{bytes_eq_is, went}
use Rattle.ofx_tree.specs.Located.{Holds, Any, IsWithin}
use Rattle.ofx_tree.proofs.FormLaws.{bind_ok, bind_to, one_value, one_found, one_again}
use Rattle.ofx_tree.proofs.FormOffsets.{bound, either, one_within}
use Rattle.msg_parts.proofs.PartLaws.{trnuid_found, trnuid_again}
use Rattle.msg_parts.proofs.PartOffsets.{trnuid_within}
use Rattle.msg_mail.proofs.MailParts.{account_in_found, account_in_again, account_in_within, mail_in_found, mail_in_again, mail_in_within}

-- ---- the two requests

bank_mail_found : (transaction : Item) (deed : Deed) → transaction.node.name ≡ codes "BANKMAILTRNRQ" → bank_mail_of transaction ≡ Ok deed →
    IsMailRequest transaction deed
unfolding bank_mail_of
bank_mail_found transaction deed name h =
    let request = bind_ok (one (codes "BANKMAILRQ") transaction) _ deed h in
    let account = bind_ok (account_in request.0) _ deed request.2 in
    let text = bind_ok (mail_in request.0) _ deed account.2 in
    subst (IsMailRequest transaction) (one_value _ _ deed refl text.2) (
      name,
      (request.0, one_found (codes "BANKMAILRQ") transaction request.0 request.1, account_in_found request.0 account.0 account.1, mail_in_found request.0 text.0 text.1),
    )

plain_mail_found : (transaction : Item) (deed : Deed) → transaction.node.name ≡ codes "MAILTRNRQ" → plain_mail_of transaction ≡ Ok deed →
    IsMailRequest transaction deed
unfolding plain_mail_of
plain_mail_found transaction deed name h =
    let request = bind_ok (one (codes "MAILRQ") transaction) _ deed h in
    let text = bind_ok (mail_in request.0) _ deed request.2 in
    subst (IsMailRequest transaction) (one_value _ _ deed refl text.2)
    (name, (request.0, one_found (codes "MAILRQ") transaction request.0 request.1, mail_in_found request.0 text.0 text.1))

request_found : (transaction : Item) (deed : Deed) → mail_request_of transaction ≡ Ok deed → IsMailRequest transaction deed
unfolding mail_request_of
request_found transaction deed h = elim (went (has_name (codes "BANKMAILTRNRQ") transaction) _ _ _ h) [
  | inl (is, read) ↦ bank_mail_found transaction deed (bytes_eq_is _ _ is) read
  | inr (other, more) ↦ elim (went (has_name (codes "MAILTRNRQ") transaction) _ _ _ more) [
    | inl (is, read) ↦ plain_mail_found transaction deed (bytes_eq_is _ _ is) read
    | inr (_, read) ↦ cc
  ]
]

request_again : (transaction : Item) (deed : Deed) → IsMailRequest transaction deed → mail_request_of transaction ≡ Ok deed
unfolding mail_request_of bank_mail_of plain_mail_of
request_again transaction (deeds.BankMail account text) r =
    let is : has_name (codes "BANKMAILTRNRQ") transaction ≡ true = rw r.0 refl in
    rw is (
    bind_to _ _ r.1.0 (one_again (codes "BANKMAILRQ") transaction r.1.0 r.1.1)
    ∙ bind_to _ _ account (account_in_again r.1.0 account r.1.2)
    ∙ bind_to _ _ text (mail_in_again r.1.0 text r.1.3)
    )
request_again transaction (deeds.Mail text) r =
    let other : has_name (codes "BANKMAILTRNRQ") transaction ≡ false = rw r.0 refl in
    let is : has_name (codes "MAILTRNRQ") transaction ≡ true = rw r.0 refl in
    rw (other, is) (
    bind_to _ _ r.1.0 (one_again (codes "MAILRQ") transaction r.1.0 r.1.1)
    ∙ bind_to _ _ text (mail_in_again r.1.0 text r.1.2)
    )
request_again transaction deed r = absurd r

bank_mail_within : (most : ℕ) (transaction : Item) → IsWithin most transaction → Holds most Any (bank_mail_of transaction)
unfolding bank_mail_of
bank_mail_within most transaction h =
    bound most (IsWithin most) Any (one (codes "BANKMAILRQ") transaction) _ (one_within most (codes "BANKMAILRQ") transaction h) (λ request r.
    bound most Any Any (account_in request) _ (account_in_within most request r) (λ account _.
    bound most Any Any (mail_in request) _ (mail_in_within most request r) (λ text _. tt)))

plain_mail_within : (most : ℕ) (transaction : Item) → IsWithin most transaction → Holds most Any (plain_mail_of transaction)
unfolding plain_mail_of
plain_mail_within most transaction h =
    bound most (IsWithin most) Any (one (codes "MAILRQ") transaction) _ (one_within most (codes "MAILRQ") transaction h) (λ request r.
    bound most Any Any (mail_in request) _ (mail_in_within most request r) (λ text _. tt))

request_within : (most : ℕ) (transaction : Item) → IsWithin most transaction → Holds most Any (mail_request_of transaction)
unfolding mail_request_of
request_within most transaction h =
    either most Any (has_name (codes "BANKMAILTRNRQ") transaction) _ _ (bank_mail_within most transaction h)
    (either most Any (has_name (codes "MAILTRNRQ") transaction) _ _ (plain_mail_within most transaction h) h.offset)

-- ---- the transaction

pub mail_found : (transaction : Item) (trnuid : List ℕ) (deed : Deed) → mail_deed_of transaction ≡ Ok (trnuid, deed) → IsMailDeed transaction trnuid deed
unfolding mail_deed_of
mail_found transaction trnuid deed h =
    let uid = bind_ok (trnuid_of transaction) _ (trnuid, deed) h in
    let request = bind_ok (mail_request_of transaction) _ (trnuid, deed) uid.2 in
    let P : List ℕ × Deed → Type 0 = λ said. IsMailDeed transaction said.0 said.1 in
    subst P (one_value _ _ (trnuid, deed) refl request.2) (record {
      has_trnuid = trnuid_found transaction uid.0 uid.1;
      is_request = request_found transaction request.0 request.1;
    })

pub mail_again : (transaction : Item) (trnuid : List ℕ) (deed : Deed) → IsMailDeed transaction trnuid deed → mail_deed_of transaction ≡ Ok (trnuid, deed)
unfolding mail_deed_of
mail_again transaction trnuid deed d =
    bind_to _ _ trnuid (trnuid_again transaction trnuid d.has_trnuid)
    ∙ bind_to _ _ deed (request_again transaction deed d.is_request)

pub mail_within : (most : ℕ) (transaction : Item) → IsWithin most transaction → Holds most Any (mail_deed_of transaction)
unfolding mail_deed_of
mail_within most transaction h =
    bound most Any Any (trnuid_of transaction) _ (trnuid_within most transaction h) (λ trnuid _.
    bound most Any Any (mail_request_of transaction) _ (request_within most transaction h) (λ deed _. tt))
