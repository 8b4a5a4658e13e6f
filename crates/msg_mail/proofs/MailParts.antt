-- The parts that mails and the answers to them share: an account, and the mail itself.
use Rattle.std.proofs.Common.{◌≡◌, ℕ, List, Ok, codes, refl, subst, ◌∙◌}
use Rattle.ofx_types.specs.Nodes.{Item}
use Rattle.ofx_types.specs.FormWords.{one, text_in, moment_in, IsTextIn}
use Rattle.ofx_types.specs.MailForm.{HasAccount, IsMailText, HasMail, HasMailOf}
use Rattle.ofx_types.specs.MailReading.{account_in, mail_text_of, mail_in, mail_of_user, mail_of_user_in}
use Rattle.ofx_types.specs.RequestReading.{account_of}
use Rattle.ofx_types.specs.declared.account.AcctName.{AcctName}
use Rattle.ofx_types.specs.declared.mail.MailText.{MailText}
use Rattle.ofx_tree.specs.Located.{Holds, Any, IsWithin}
use Rattle.ofx_tree.proofs.FormLaws.{bind_ok, bind_to, one_value, one_found, one_again, text_in_found, text_in_again, moment_in_found, moment_in_again}
use Rattle.ofx_tree.proofs.FormOffsets.{bound, one_within, text_within, moment_within}
use Rattle.msg_parts.proofs.PartLaws.{account_found, account_again}
use Rattle.msg_parts.proofs.PartOffsets.{account_within}

-- ---- the account

pub account_in_found : (parent : Item) (account : AcctName) → account_in parent ≡ Ok account → HasAccount parent account
unfolding account_in
account_in_found parent account h =
    let from = bind_ok (one (codes "BANKACCTFROM") parent) account_of account h in
    (from.0, one_found (codes "BANKACCTFROM") parent from.0 from.1, account_found from.0 account from.2)

pub account_in_again : (parent : Item) (account : AcctName) → HasAccount parent account → account_in parent ≡ Ok account
unfolding account_in
account_in_again parent account h =
    bind_to (one (codes "BANKACCTFROM") parent) account_of h.0 (one_again (codes "BANKACCTFROM") parent h.0 h.1) ∙ account_again h.0 account h.2

pub account_in_within : (most : ℕ) (parent : Item) → IsWithin most parent → Holds most Any (account_in parent)
unfolding account_in
account_in_within most parent h =
    bound most (IsWithin most) Any (one (codes "BANKACCTFROM") parent) _ (one_within most (codes "BANKACCTFROM") parent h) (λ from f. account_within most from f)

-- ---- the mail

pub mail_text_found : (mail : Item) (text : MailText) → mail_text_of mail ≡ Ok text → IsMailText mail text
unfolding mail_text_of
mail_text_found mail text h =
    let created = bind_ok (moment_in (codes "DTCREATED") mail) _ text h in
    let sender = bind_ok (text_in (codes "FROM") 32 mail) _ text created.2 in
    let target = bind_ok (text_in (codes "TO") 32 mail) _ text sender.2 in
    let subject = bind_ok (text_in (codes "SUBJECT") 64 mail) _ text target.2 in
    let body = bind_ok (text_in (codes "MSGBODY") 10000 mail) _ text subject.2 in
    subst (IsMailText mail) (one_value _ _ text refl body.2) (record {
      created = moment_in_found (codes "DTCREATED") mail created.0 created.1;
      sender = text_in_found (codes "FROM") 32 mail sender.0 sender.1;
      target = text_in_found (codes "TO") 32 mail target.0 target.1;
      subject = text_in_found (codes "SUBJECT") 64 mail subject.0 subject.1;
      body = text_in_found (codes "MSGBODY") 10000 mail body.0 body.1;
    })

pub mail_text_again : (mail : Item) (text : MailText) → IsMailText mail text → mail_text_of mail ≡ Ok text
unfolding mail_text_of
mail_text_again mail text m =
    bind_to _ _ text.created (moment_in_again (codes "DTCREATED") mail text.created m.created)
    ∙ bind_to _ _ text.sender (text_in_again (codes "FROM") 32 mail text.sender m.sender)
    ∙ bind_to _ _ text.target (text_in_again (codes "TO") 32 mail text.target m.target)
    ∙ bind_to _ _ text.subject (text_in_again (codes "SUBJECT") 64 mail text.subject m.subject)
    ∙ bind_to _ _ text.body (text_in_again (codes "MSGBODY") 10000 mail text.body m.body)

pub mail_text_within : (most : ℕ) (mail : Item) → IsWithin most mail → Holds most Any (mail_text_of mail)
unfolding mail_text_of
mail_text_within most mail h =
    bound most Any Any (moment_in (codes "DTCREATED") mail) _ (moment_within most (codes "DTCREATED") mail h) (λ created _.
    bound most Any Any (text_in (codes "FROM") 32 mail) _ (text_within most (codes "FROM") 32 mail h) (λ sender _.
    bound most Any Any (text_in (codes "TO") 32 mail) _ (text_within most (codes "TO") 32 mail h) (λ target _.
    bound most Any Any (text_in (codes "SUBJECT") 64 mail) _ (text_within most (codes "SUBJECT") 64 mail h) (λ subject _.
    bound most Any Any (text_in (codes "MSGBODY") 10000 mail) _ (text_within most (codes "MSGBODY") 10000 mail h) (λ body _. tt)))))

pub mail_in_found : (parent : Item) (text : MailText) → mail_in parent ≡ Ok text → HasMail parent text
unfolding mail_in
mail_in_found parent text h =
    let mail = bind_ok (one (codes "MAIL") parent) mail_text_of text h in
    (mail.0, one_found (codes "MAIL") parent mail.0 mail.1, mail_text_found mail.0 text mail.2)

pub mail_in_again : (parent : Item) (text : MailText) → HasMail parent text → mail_in parent ≡ Ok text
unfolding mail_in
mail_in_again parent text h =
    bind_to (one (codes "MAIL") parent) mail_text_of h.0 (one_again (codes "MAIL") parent h.0 h.1) ∙ mail_text_again h.0 text h.2

pub mail_in_within : (most : ℕ) (parent : Item) → IsWithin most parent → Holds most Any (mail_in parent)
unfolding mail_in
mail_in_within most parent h =
    bound most (IsWithin most) Any (one (codes "MAIL") parent) _ (one_within most (codes "MAIL") parent h) (λ mail m. mail_text_within most mail m)

-- ---- the mail of a reply

user_mail_found : (mail : Item) (user : List ℕ) (text : MailText) → mail_of_user mail ≡ Ok (user, text) →
    IsTextIn (codes "USERID") 32 mail user × IsMailText mail text
unfolding mail_of_user
user_mail_found mail user text h =
    let name = bind_ok (text_in (codes "USERID") 32 mail) _ (user, text) h in
    let said = bind_ok (mail_text_of mail) _ (user, text) name.2 in
    let P : List ℕ × MailText → Type 0 = λ read. IsTextIn (codes "USERID") 32 mail read.0 × IsMailText mail read.1 in
    subst P (one_value _ _ (user, text) refl said.2) (text_in_found (codes "USERID") 32 mail name.0 name.1, mail_text_found mail said.0 said.1)

user_mail_again : (mail : Item) (user : List ℕ) (text : MailText) → IsTextIn (codes "USERID") 32 mail user → IsMailText mail text →
    mail_of_user mail ≡ Ok (user, text)
unfolding mail_of_user
user_mail_again mail user text u m =
    bind_to _ _ user (text_in_again (codes "USERID") 32 mail user u) ∙ bind_to _ _ text (mail_text_again mail text m)

user_mail_within : (most : ℕ) (mail : Item) → IsWithin most mail → Holds most Any (mail_of_user mail)
unfolding mail_of_user
user_mail_within most mail h =
    bound most Any Any (text_in (codes "USERID") 32 mail) _ (text_within most (codes "USERID") 32 mail h) (λ user _.
    bound most Any Any (mail_text_of mail) _ (mail_text_within most mail h) (λ text _. tt))

pub user_mail_in_found : (parent : Item) (user : List ℕ) (text : MailText) → mail_of_user_in parent ≡ Ok (user, text) → HasMailOf parent user text
unfolding mail_of_user_in
user_mail_in_found parent user text h =
    let mail = bind_ok (one (codes "MAIL") parent) mail_of_user (user, text) h in
    let said = user_mail_found mail.0 user text mail.2 in
    (mail.0, one_found (codes "MAIL") parent mail.0 mail.1, said.0, said.1)

pub user_mail_in_again : (parent : Item) (user : List ℕ) (text : MailText) → HasMailOf parent user text → mail_of_user_in parent ≡ Ok (user, text)
unfolding mail_of_user_in
user_mail_in_again parent user text h =
    bind_to (one (codes "MAIL") parent) mail_of_user h.0 (one_again (codes "MAIL") parent h.0 h.1) ∙ user_mail_again h.0 user text h.2 h.3

pub user_mail_in_within : (most : ℕ) (parent : Item) → IsWithin most parent → Holds most Any (mail_of_user_in parent)
unfolding mail_of_user_in
user_mail_in_within most parent h =
    bound most (IsWithin most) Any (one (codes "MAIL") parent) _ (one_within most (codes "MAIL") parent h) (λ mail m. user_mail_within most mail m)
