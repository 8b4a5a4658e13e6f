-- Sound mails read back as they were written.
use Rattle.std.proofs.Common.{ℕ, List, Option, None, Some, codes, refl, ◌∙◌, arith, append-nil}
use Rattle.std.specs.Option.{IfSome}
use Rattle.ofx_types.specs.DeedForm.{family_of, request_name}
use Rattle.ofx_types.specs.DeedText.{deed_text}
use Rattle.ofx_types.specs.FormWords.{IsTextIn}
use Rattle.ofx_types.specs.MailForm.{HasAccount, IsMailText, HasMail, HasMailOf, IsMailRequest}
use Rattle.ofx_types.specs.MailReading.{mail_deed_of}
use Rattle.ofx_types.specs.declared.account.AcctName.{AcctName}
use Rattle.ofx_types.specs.declared.mail.MailText.{MailText}
use Rattle.ofx_types.specs.declared.transfer.Deed.{Deed}
use Rattle.ofx_types.specs.declared.transfer.Deed.TheVariants as deeds
use Rattle.ofx_tree.specs.Documents.{empty, branch_item}
use Rattle.ofx_tree.proofs.FormLaws.{moment_in_found}
use Rattle.ofx_tree.proofs.DocumentItems.{named_of_branch}
use Rattle.ofx_tree.proofs.Leaves.{moment_of_leaf}
use Rattle.msg_parts.specs.DeedDocuments.{deed_documents, DeedsAreDocuments}
use Rattle.msg_parts.specs.MailDocuments.{mail_documents, mail_about}
use Rattle.msg_parts.specs.SoundParts.{IsTextWithin, IsSoundAccount}
use Rattle.msg_parts.proofs.Alone.{read_alone}
use Rattle.msg_parts.proofs.Lawful.{named}
use Rattle.msg_parts.proofs.PartLaws.{account_found}
use Rattle.msg_parts.proofs.ReadBack.{account_back}
use Rattle.msg_parts.proofs.Transactions.{is_text_of_leaf, deed_item, own_trnuid_holds}
use Rattle.msg_mail.specs.SoundMails.{IsSoundMail, IsSoundMailRequest}
use Rattle.msg_mail.specs.MailsAsDocuments.{MailsReadBack, MailsReadBackAlone}
use Rattle.msg_mail.proofs.Mails.{mail_again}
use Rattle.msg_mail.proofs.MailDocuments.{mail_lawful, about_lawful, deed_lawful, mails_lawful}

-- ---- the account and the mail

-- What is printed in MAIL is read as that mail.
mail_holds : (offset index : ℕ) (user : List ℕ) (text : MailText) → IsTextWithin 32 user → IsSoundMail text →
    IsMailText (branch_item offset index (codes "MAIL") (mail_documents user text)) text
mail_holds offset index user text u m =
    let inner = mail_documents user text in
    let lawful = mail_lawful 0 user text u m in
    let item = branch_item offset index (codes "MAIL") inner in
    record {
      created = moment_in_found (codes "DTCREATED") item text.created (moment_of_leaf (codes "DTCREATED") text.created _ _ item (named (codes "DTCREATED") refl refl) m.created (named_of_branch offset index 0 (codes "MAIL") (codes "DTCREATED") inner lawful));
      sender = is_text_of_leaf (codes "FROM") 32 text.sender _ _ item (named (codes "FROM") refl refl) m.sender (named_of_branch offset index 0 (codes "MAIL") (codes "FROM") inner lawful);
      target = is_text_of_leaf (codes "TO") 32 text.target _ _ item (named (codes "TO") refl refl) m.target (named_of_branch offset index 0 (codes "MAIL") (codes "TO") inner lawful);
      subject = is_text_of_leaf (codes "SUBJECT") 64 text.subject _ _ item (named (codes "SUBJECT") refl refl) m.subject (named_of_branch offset index 0 (codes "MAIL") (codes "SUBJECT") inner lawful);
      body = is_text_of_leaf (codes "MSGBODY") 10000 text.body _ _ item (named (codes "MSGBODY") refl refl) m.body (named_of_branch offset index 0 (codes "MAIL") (codes "MSGBODY") inner lawful);
    }

user_holds : (offset index : ℕ) (user : List ℕ) (text : MailText) → IsTextWithin 32 user → IsSoundMail text →
    IsTextIn (codes "USERID") 32 (branch_item offset index (codes "MAIL") (mail_documents user text)) user
user_holds offset index user text u m =
    let inner = mail_documents user text in
    let item = branch_item offset index (codes "MAIL") inner in
    is_text_of_leaf (codes "USERID") 32 user _ _ item (named (codes "USERID") refl refl) u (named_of_branch offset index 0 (codes "MAIL") (codes "USERID") inner (mail_lawful 0 user text u m))

-- So it is in a request or a reply, whatever its name,
pub user_mail_holds : (offset index : ℕ) (name : List ℕ) (about : Option AcctName) (user : List ℕ) (text : MailText) → IfSome about IsSoundAccount →
    IsTextWithin 32 user → IsSoundMail text → HasMailOf (branch_item offset index name (mail_about about user text)) user text
user_mail_holds offset index name None user text a u m =
    (_, named_of_branch offset index 1 name (codes "MAIL") (mail_about None user text) (about_lawful 1 None user text (omega arith) a u m), user_holds _ _ user text u m, mail_holds _ _ user text u m)
user_mail_holds offset index name (Some account) user text a u m =
    (_, named_of_branch offset index 1 name (codes "MAIL") (mail_about (Some account) user text) (about_lawful 1 (Some account) user text (omega arith) a u m), user_holds _ _ user text u m, mail_holds _ _ user text u m)

-- and what is printed of the account is read as that account.
pub account_holds : (offset index : ℕ) (name : List ℕ) (account : AcctName) (user : List ℕ) (text : MailText) → IsSoundAccount account →
    IsTextWithin 32 user → IsSoundMail text → HasAccount (branch_item offset index name (mail_about (Some account) user text)) account
account_holds offset index name account user text a u m =
    (_, named_of_branch offset index 1 name (codes "BANKACCTFROM") (mail_about (Some account) user text) (about_lawful 1 (Some account) user text (omega arith) a u m), account_found _ account (account_back _ _ (codes "BANKACCTFROM") account a))

-- A request has the text of FROM as its USERID.
request_mail_holds : (offset index : ℕ) (name : List ℕ) (about : Option AcctName) (text : MailText) → IfSome about IsSoundAccount → IsSoundMail text →
    HasMail (branch_item offset index name (mail_about about text.sender text)) text
request_mail_holds offset index name about text a m =
    let said = user_mail_holds offset index name about text.sender text a m.sender m in (said.0, said.1, said.3)

-- ---- the two requests

request_holds : (offset index : ℕ) (trnuid : List ℕ) (deed : Deed) → IsSoundMailRequest trnuid deed → IsMailRequest (deed_item offset index trnuid deed) deed
request_holds offset index trnuid (deeds.BankMail account text) d =
    let deed = deeds.BankMail account text in (
      refl,
      (
        _,
        named_of_branch offset index 2 (codes "BANKMAILTRNRQ") (codes "BANKMAILRQ") (deed_documents trnuid deed) (deed_lawful 2 trnuid deed (omega arith) d),
        account_holds _ _ (codes "BANKMAILRQ") account text.sender text d.is_mail.0 d.is_mail.1.sender d.is_mail.1,
        request_mail_holds _ _ (codes "BANKMAILRQ") (Some account) text d.is_mail.0 d.is_mail.1,
      ),
    )
request_holds offset index trnuid (deeds.Mail text) d =
    let deed = deeds.Mail text in (
      refl,
      (
        _,
        named_of_branch offset index 2 (codes "MAILTRNRQ") (codes "MAILRQ") (deed_documents trnuid deed) (deed_lawful 2 trnuid deed (omega arith) d),
        request_mail_holds _ _ (codes "MAILRQ") None text tt d.is_mail,
      ),
    )
request_holds offset index trnuid deed d = absurd d.is_mail

-- ---- the transaction

pub mails_back : MailsReadBack
mails_back offset index trnuid deed d =
    mail_again (deed_item offset index trnuid deed) trnuid deed (record {
      has_trnuid = own_trnuid_holds offset index 2 trnuid deed d.is_uid d.is_own (deed_lawful 2 trnuid deed (omega arith) d);
      is_request = request_holds offset index trnuid deed d;
    })

pub mails_alone : DeedsAreDocuments → MailsReadBackAlone
mails_alone printed trnuid deed d =
    read_alone (request_name (family_of deed)) (deed_text trnuid deed) (deed_documents trnuid deed) mail_deed_of (trnuid, deed)
    (printed trnuid deed empty ∙ append-nil (deed_text trnuid deed))
    (mails_lawful 15 trnuid deed empty (omega arith) d tt)
    (λ offset index. mails_back offset index trnuid deed d)
