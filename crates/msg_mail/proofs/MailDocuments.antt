-- The documents of sound mails and of sound answers to them are lawful.
use Rattle.std.proofs.Common.{ℕ, ◌-◌, ◌<◌, false, List, Option, None, Some, codes, refl, arith}
use Rattle.std.specs.Option.{IfSome}
use Rattle.ofx_types.specs.DeedForm.{family_of}
use Rattle.ofx_types.specs.declared.account.AcctName.{AcctName}
use Rattle.ofx_types.specs.declared.mail.MailText.{MailText}
use Rattle.ofx_types.specs.declared.transfer.Deed.{Deed}
use Rattle.ofx_types.specs.declared.transfer.Deed.TheVariants as deeds
use Rattle.ofx_types.specs.declared.transfer.Change.{Change}
use Rattle.ofx_types.specs.declared.transfer.Change.TheVariants.{NewMail}
use Rattle.ofx_types.specs.declared.transfer.Family.{Family}
use Rattle.ofx_types.specs.declared.transfer.DeedReply.{DeedReply}
use Rattle.ofx_tree.specs.Documents.{AreLawful}
use Rattle.ofx_tree.proofs.Leaves.{moment_leaf, flag_leaf}
use Rattle.msg_parts.specs.DeedDocuments.{request_documents, deed_documents, change_documents, change_document, deed_reply_documents}
use Rattle.msg_parts.specs.MailDocuments.{mail_documents, mail_about}
use Rattle.msg_parts.specs.SoundParts.{IsTextWithin, IsSoundAccount}
use Rattle.msg_parts.proofs.Lawful.{named, is_branch, text_leaf, account_lawful, status_lawful}
use Rattle.msg_parts.proofs.Branches.{request_branch, transaction_branch, change_branch, answer_branch}
use Rattle.msg_mail.specs.SoundMails.{IsSoundMail, IsSoundMailDeed, IsSoundMailRequest, IsSoundMailChange, IsSoundMailByCode, IsSoundMailReply}
use Rattle.msg_mail.specs.MailsAsDocuments.{MailsAreLawful, MailRepliesAreLawful}

pub mail_lawful : (room : ℕ) (user : List ℕ) (text : MailText) → IsTextWithin 32 user → IsSoundMail text → AreLawful room (mail_documents user text)
mail_lawful room user text u m = (
  text_leaf (codes "USERID") 32 user (named (codes "USERID") refl refl) u,
  (
    moment_leaf (codes "DTCREATED") text.created.0 (named (codes "DTCREATED") refl refl) m.created,
    (
      text_leaf (codes "FROM") 32 text.sender (named (codes "FROM") refl refl) m.sender,
      (
        text_leaf (codes "TO") 32 text.target (named (codes "TO") refl refl) m.target,
        (
          text_leaf (codes "SUBJECT") 64 text.subject (named (codes "SUBJECT") refl refl) m.subject,
          (
            text_leaf (codes "MSGBODY") 10000 text.body (named (codes "MSGBODY") refl refl) m.body,
            (flag_leaf (codes "INCIMAGES") false (named (codes "INCIMAGES") refl refl), (flag_leaf (codes "USEHTML") false (named (codes "USEHTML") refl refl), tt)),
          ),
        ),
      ),
    ),
  ),
)

-- an account, where the mail is about one, and the mail
pub about_lawful : (room : ℕ) (about : Option AcctName) (user : List ℕ) (text : MailText) → 0 < room → IfSome about IsSoundAccount →
    IsTextWithin 32 user → IsSoundMail text → AreLawful room (mail_about about user text)
about_lawful room None user text some a u m = (is_branch (codes "MAIL") refl refl refl, some, mail_lawful (room - 1) user text u m, tt)
about_lawful room (Some account) user text some a u m = (
  is_branch (codes "BANKACCTFROM") refl refl refl,
  some,
  account_lawful (room - 1) account a,
  (is_branch (codes "MAIL") refl refl refl, some, mail_lawful (room - 1) user text u m, tt),
)

-- ---- requests

request_lawful : (room : ℕ) (deed : Deed) → 0 < room → IsSoundMailDeed deed → AreLawful room (request_documents deed)
request_lawful room (deeds.BankMail account text) some d = about_lawful room (Some account) text.sender text some d.0 d.1.sender d.1
request_lawful room (deeds.Mail text) some d = about_lawful room None text.sender text some tt d.sender d
request_lawful room deed some d = absurd d

pub deed_lawful : (room : ℕ) (trnuid : List ℕ) (deed : Deed) → 1 < room → IsSoundMailRequest trnuid deed → AreLawful room (deed_documents trnuid deed)
deed_lawful room trnuid deed some d = (
  text_leaf (codes "TRNUID") 36 trnuid (named (codes "TRNUID") refl refl) d.is_uid,
  (request_branch deed, omega arith, request_lawful (room - 1) deed (omega arith) d.is_mail, tt),
)

pub mails_lawful : MailsAreLawful
mails_lawful room trnuid deed rest some d more =
    (transaction_branch (family_of deed), omega arith, deed_lawful (room - 1) trnuid deed (omega arith) d, more)

-- ---- replies

change_lawful : (room : ℕ) (change : Change) → 0 < room → IsSoundMailChange change → AreLawful room (change_documents change)
change_lawful room (NewMail row) some c = about_lawful room row.about row.user row.mail some c.about c.user c.mail
change_lawful room change some c = absurd c

maybe_change_lawful : (room code : ℕ) (family : Family) (change : Option Change) → 1 < room → IsSoundMailByCode code family change →
    AreLawful room (change_document change)
maybe_change_lawful room code family None some c = tt
maybe_change_lawful room code family (Some change) some c = (change_branch change, omega arith, change_lawful (room - 1) change (omega arith) c.2, tt)

pub reply_lawful : (room : ℕ) (reply : DeedReply) → 1 < room → IsSoundMailReply reply →
    AreLawful room (deed_reply_documents reply.trnuid reply.code reply.change)
reply_lawful room reply some r = (
  text_leaf (codes "TRNUID") 36 reply.trnuid (named (codes "TRNUID") refl refl) r.is_uid,
  (is_branch (codes "STATUS") refl refl refl, omega arith, status_lawful (room - 1) reply.code r.is_code, maybe_change_lawful room reply.code reply.family reply.change some r.is_mail),
)

pub mail_replies_lawful : MailRepliesAreLawful
mail_replies_lawful room reply rest some r more =
    (answer_branch reply.family, omega arith, reply_lawful (room - 1) reply (omega arith) r, more)
