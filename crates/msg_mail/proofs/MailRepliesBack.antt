-- Sound answers to mails read back as they were written.
use Rattle.std.proofs.Common.{◌≡◌, ◌≢◌, ℕ, inl, inr, ◌⊎◌, List, Option, None, Some, codes, refl, subst, ◌∙◌, arith, append-nil}
use Rattle.ofx_types.specs.DeedForm.{reply_name}
use Rattle.ofx_types.specs.DeedText.{deed_reply_text}
use Rattle.ofx_types.specs.MailForm.{IsMailByCode, IsMailReplyNamed}
use Rattle.ofx_types.specs.MailReading.{mail_reply_of}
use Rattle.ofx_types.specs.Nodes.{Item}
use Rattle.ofx_types.specs.declared.account.AcctName.{AcctName}
use Rattle.ofx_types.specs.declared.mail.MailText.{MailText}
use Rattle.ofx_types.specs.declared.mail.MailRow.{MailRow}
use Rattle.ofx_types.specs.declared.transfer.Change.{Change}
use Rattle.ofx_types.specs.declared.transfer.Change.TheVariants.{NewMail}
use Rattle.ofx_types.specs.declared.transfer.Family.{Family}
use Rattle.ofx_types.specs.declared.transfer.Family.TheVariants.{Intra, RecIntra, BankMail, Mail}
use Rattle.ofx_tree.specs.Documents.{AreLawful, empty}
use Rattle.ofx_tree.proofs.DocumentItems.{named_of_branch}
use Rattle.msg_parts.specs.DeedDocuments.{deed_reply_documents, DeedRepliesAreDocuments}
use Rattle.msg_parts.specs.SoundParts.{mail_family}
use Rattle.msg_parts.proofs.Alone.{read_alone}
use Rattle.msg_parts.proofs.Transactions.{reply_item, trnuid_holds, status_holds}
use Rattle.msg_mail.specs.SoundMails.{IsSoundMailRow, IsSoundMailByCode}
use Rattle.msg_mail.specs.MailsAsDocuments.{MailRepliesReadBack, MailRepliesReadBackAlone}
use Rattle.msg_mail.proofs.MailReplies.{reply_again}
use Rattle.msg_mail.proofs.MailDocuments.{reply_lawful, mail_replies_lawful}
use Rattle.msg_mail.proofs.MailsBack.{account_holds, user_mail_holds}

-- ---- the two replies

abbrev row_with : Option AcctName → List ℕ → MailText → MailRow
row_with about user text = record { about = about; user = user; mail = text }

-- what is reported of a mail in the transaction of a family
abbrev Told : ℕ → ℕ → List ℕ → ℕ → MailRow → Family → Type 0
Told offset index trnuid code row family =
    IsMailByCode code family (reply_item offset index trnuid code family (Some (NewMail row))) (Some (NewMail row))

row_holds : (offset index room : ℕ) (trnuid : List ℕ) (code : ℕ) (about : Option AcctName) (user : List ℕ) (text : MailText) → code ≡ 0 →
    IsSoundMailRow (row_with about user text) → AreLawful room (deed_reply_documents trnuid code (Some (NewMail (row_with about user text)))) →
    Told offset index trnuid code (row_with about user text) (mail_family about)
row_holds offset index room trnuid code None user text zero r whole = (
  zero,
  (
    _,
    named_of_branch offset index room (codes "MAILTRNRS") (codes "MAILRS") (deed_reply_documents trnuid code (Some (NewMail (row_with None user text)))) whole,
    refl,
    user_mail_holds _ _ (codes "MAILRS") None user text tt r.user r.mail,
  ),
)
row_holds offset index room trnuid code (Some account) user text zero r whole = (
  zero,
  (
    _,
    named_of_branch offset index room (codes "BANKMAILTRNRS") (codes "BANKMAILRS") (deed_reply_documents trnuid code (Some (NewMail (row_with (Some account) user text)))) whole,
    (
      account,
      refl,
      account_holds _ _ (codes "BANKMAILRS") account user text r.about r.user r.mail,
      user_mail_holds _ _ (codes "BANKMAILRS") (Some account) user text r.about r.user r.mail,
    ),
  ),
)

no_mail_holds : (family : Family) (transaction : Item) (code : ℕ) → code ≢ 0 → IsMailByCode code family transaction None
no_mail_holds Intra transaction code some = some
no_mail_holds RecIntra transaction code some = some
no_mail_holds BankMail transaction code some = some
no_mail_holds Mail transaction code some = some

by_code_holds : (offset index room : ℕ) (trnuid : List ℕ) (code : ℕ) (family : Family) (change : Option Change) → IsSoundMailByCode code family change →
    AreLawful room (deed_reply_documents trnuid code change) → IsMailByCode code family (reply_item offset index trnuid code family change) change
by_code_holds offset index room trnuid code family None c whole = no_mail_holds family (reply_item offset index trnuid code family None) code c
by_code_holds offset index room trnuid code family (Some (NewMail row)) c whole =
    subst (Told offset index trnuid code row) c.1 (row_holds offset index room trnuid code row.about row.user row.mail c.0 c.2 whole)
by_code_holds offset index room trnuid code family (Some change) c whole = absurd c.2

-- ---- the transaction

is_named : (family : Family) (transaction : Item) → (family ≡ BankMail) ⊎ (family ≡ Mail) → transaction.node.name ≡ reply_name family → IsMailReplyNamed transaction family
is_named BankMail transaction is name = name
is_named Mail transaction is name = name
is_named Intra transaction (inl h) name = cc
is_named Intra transaction (inr h) name = cc
is_named RecIntra transaction (inl h) name = cc
is_named RecIntra transaction (inr h) name = cc

pub mail_replies_back : MailRepliesReadBack
mail_replies_back offset index reply r =
    let item = reply_item offset index reply.trnuid reply.code reply.family reply.change in
    let lawful = reply_lawful 2 reply (omega arith) r in
    reply_again item reply (record {
      is_named = is_named reply.family item r.is_family refl;
      has_trnuid = trnuid_holds offset index 2 reply r.is_uid lawful;
      has_status = status_holds offset index 2 reply r.is_code lawful;
      is_change = by_code_holds offset index 2 reply.trnuid reply.code reply.family reply.change r.is_mail lawful;
    })

pub mail_replies_alone : DeedRepliesAreDocuments → MailRepliesReadBackAlone
mail_replies_alone printed reply r =
    read_alone (reply_name reply.family) (deed_reply_text reply) (deed_reply_documents reply.trnuid reply.code reply.change) mail_reply_of reply
    (printed reply empty ∙ append-nil (deed_reply_text reply))
    (mail_replies_lawful 15 reply empty (omega arith) r tt)
    (λ offset index. mail_replies_back offset index reply r)
