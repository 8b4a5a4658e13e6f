-- The forms of mail and of the answers to it, about an account and about nothing in particular (OFX 1.6, "Communication
-- Between Customers and Financial Institutions").
use Rattle.std.specs.Prelude.{◌≡◌, ◌≢◌, ◌⊎◌, ℕ, List, codes, Option, None, Some}
use Rattle.ofx_types.specs.Nodes.{Item}
use Rattle.ofx_types.specs.FormWords.{IsOnly, IsTextIn, IsMomentIn}
use Rattle.ofx_types.specs.RequestForm.{IsTrnUidOf, IsAccount}
use Rattle.ofx_types.specs.ReplyGrammar.{IsStatus}
use Rattle.ofx_types.specs.declared.account.AcctName.{AcctName}
use Rattle.ofx_types.specs.declared.mail.MailText.{MailText}
use Rattle.ofx_types.specs.declared.mail.MailRow.{MailRow}
use Rattle.ofx_types.specs.declared.transfer.Deed.{Deed}
use Rattle.ofx_types.specs.declared.transfer.Deed.TheVariants as deeds
use Rattle.ofx_types.specs.declared.transfer.Change.{Change}
use Rattle.ofx_types.specs.declared.transfer.Change.TheVariants.{NewMail}
use Rattle.ofx_types.specs.declared.transfer.Family.{Family}
use Rattle.ofx_types.specs.declared.transfer.Family.TheVariants as families
use Rattle.ofx_types.specs.declared.transfer.DeedReply.{DeedReply}

-- the account that a request or a reply is about
abbrev pub HasAccount : Item → AcctName → Type 0
HasAccount parent account = (bankacctfrom : Item) × IsOnly (codes "BANKACCTFROM") parent bankacctfrom × IsAccount bankacctfrom account

-- MAIL. Of a request USERID isn't looked at.
pub record IsMailText (mail : Item) (text : MailText) : Type 0 where
  pub created : IsMomentIn (codes "DTCREATED") mail text.created
  pub sender : IsTextIn (codes "FROM") 32 mail text.sender
  pub target : IsTextIn (codes "TO") 32 mail text.target
  pub subject : IsTextIn (codes "SUBJECT") 64 mail text.subject
  pub body : IsTextIn (codes "MSGBODY") 10000 mail text.body

abbrev pub HasMail : Item → MailText → Type 0
HasMail parent text = (mail : Item) × IsOnly (codes "MAIL") parent mail × IsMailText mail text

-- In a reply there is USERID too.
abbrev pub HasMailOf : Item → List ℕ → MailText → Type 0
HasMailOf parent user text =
    (mail : Item) × IsOnly (codes "MAIL") parent mail × IsTextIn (codes "USERID") 32 mail user × IsMailText mail text

-- ---- requests

-- BANKMAILTRNRQ: a uid, and BANKMAILRQ with an account and a mail. MAILTRNRQ: a uid, and MAILRQ with a mail.
abbrev pub IsBankMail : Item → AcctName → MailText → Type 0
IsBankMail transaction account text =
    (request : Item) × IsOnly (codes "BANKMAILRQ") transaction request × HasAccount request account × HasMail request text

abbrev pub IsPlainMail : Item → MailText → Type 0
IsPlainMail transaction text = (request : Item) × IsOnly (codes "MAILRQ") transaction request × HasMail request text

-- A mail is one of the two; no other deed is.
abbrev pub IsMailRequest : Item → Deed → Type 0
IsMailRequest transaction (deeds.BankMail account text) =
    (transaction.node.name ≡ codes "BANKMAILTRNRQ") × IsBankMail transaction account text
IsMailRequest transaction (deeds.Mail text) = (transaction.node.name ≡ codes "MAILTRNRQ") × IsPlainMail transaction text
IsMailRequest transaction (deeds.Transfer info) = ⊥
IsMailRequest transaction (deeds.ModifyTransfer id info) = ⊥
IsMailRequest transaction (deeds.CancelTransfer id) = ⊥
IsMailRequest transaction (deeds.Model recur info) = ⊥
IsMailRequest transaction (deeds.ModifyModel id recur info pending) = ⊥
IsMailRequest transaction (deeds.CancelModel id pending) = ⊥

pub record IsMailDeed (transaction : Item) (trnuid : List ℕ) (deed : Deed) : Type 0 where
  pub has_trnuid : IsTrnUidOf transaction trnuid
  pub is_request : IsMailRequest transaction deed

-- ---- replies

-- BANKMAILRS and MAILRS
abbrev pub IsBankMailRow : Item → MailRow → Type 0
IsBankMailRow transaction row =
    (reply : Item) × IsOnly (codes "BANKMAILRS") transaction reply
    × ((account : AcctName) × (row.about ≡ Some account) × HasAccount reply account × HasMailOf reply row.user row.mail)

abbrev pub IsPlainMailRow : Item → MailRow → Type 0
IsPlainMailRow transaction row =
    (reply : Item) × IsOnly (codes "MAILRS") transaction reply × (row.about ≡ None) × HasMailOf reply row.user row.mail

-- With code 0 there is the reply of the family. With any other code nothing more is looked at.
abbrev pub IsMailByCode : ℕ → Family → Item → Option Change → Type 0
IsMailByCode code families.BankMail transaction (Some (NewMail row)) = (code ≡ 0) × IsBankMailRow transaction row
IsMailByCode code families.Mail transaction (Some (NewMail row)) = (code ≡ 0) × IsPlainMailRow transaction row
IsMailByCode code family transaction (Some change) = ⊥
IsMailByCode code family transaction None = code ≢ 0

-- the aggregate of a mail's answer
abbrev pub IsMailReplyNamed : Item → Family → Type 0
IsMailReplyNamed transaction families.BankMail = transaction.node.name ≡ codes "BANKMAILTRNRS"
IsMailReplyNamed transaction families.Mail = transaction.node.name ≡ codes "MAILTRNRS"
IsMailReplyNamed transaction families.Intra = ⊥
IsMailReplyNamed transaction families.RecIntra = ⊥

-- BANKMAILTRNRS and MAILTRNRS
pub record IsMailReply (transaction : Item) (reply : DeedReply) : Type 0 where
  pub is_named : IsMailReplyNamed transaction reply.family
  pub has_trnuid : IsTextIn (codes "TRNUID") 36 transaction reply.trnuid
  pub has_status : IsStatus transaction reply.code
  pub is_change : IsMailByCode reply.code reply.family transaction reply.change
