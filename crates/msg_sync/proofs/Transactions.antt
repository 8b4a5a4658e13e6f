-- Transactions of any kind, and the answers to them, have their forms exactly where reading finds them, and their faults have
-- offsets.
use Rattle.std.proofs.Common.{◌≡◌, ℕ, inl, inr, true, false, List, Ok, refl}
use Rattle.ofx_types.specs.Nodes.{Item}
use Rattle.ofx_types.specs.DeedForm.{family_of, request_name, IsDeedRequest, IsDeedReplyNamed}
use Rattle.ofx_types.specs.MailForm.{IsMailRequest, IsMailReplyNamed}
use Rattle.ofx_types.specs.SyncForm.{IsTransaction, IsTransactionReply}
use Rattle.ofx_types.specs.SyncReading.{is_mail, is_mail_reply, transaction_of, transaction_reply_of}
use Rattle.ofx_types.specs.declared.transfer.Deed.{Deed}
use Rattle.ofx_types.specs.declared.transfer.Deed.TheVariants as deeds
use Rattle.ofx_types.specs.declared.transfer.Family.{Family}
use Rattle.ofx_types.specs.declared.transfer.Family.TheVariants.{Intra, RecIntra, BankMail, Mail}
use Rattle.ofx_types.specs.declared.transfer.DeedReply.{DeedReply}
use Rattle.ofx_types.proofs.Bytes.{went}
use Rattle.ofx_tree.specs.Located.{Any}
use Rattle.ofx_tree.proofs.FormOffsets.{either}
use Rattle.msg_deed.specs.DeedLaws.{DeedsAreFound, DeedFaultsHaveOffsets, DeedRepliesAreFound, DeedReplyFaultsHaveOffsets}
use Rattle.msg_mail.specs.MailLaws.{MailsAreFound, MailFaultsHaveOffsets, MailRepliesAreFound, MailReplyFaultsHaveOffsets}
use Rattle.msg_sync.specs.SyncLaws.{TransactionsAreFound, TransactionFaultsHaveOffsets, TransactionRepliesAreFound, TransactionReplyFaultsHaveOffsets}

-- ---- requests

transaction_found : DeedsAreFound → MailsAreFound → (transaction : Item) (deed : List ℕ × Deed) → transaction_of transaction ≡ Ok deed → IsTransaction transaction deed
unfolding transaction_of
transaction_found bank mails transaction deed h = elim (went (is_mail transaction) _ _ _ h) [
  | inl (is, read) ↦ inr ((mails transaction deed.0 deed.1).1 read)
  | inr (other, read) ↦ inl ((bank transaction deed.0 deed.1).1 read)
]

-- its name tells which of the two it is
deed_named : (transaction request : Item) (deed : Deed) → IsDeedRequest request deed → transaction.node.name ≡ request_name (family_of deed) →
    is_mail transaction ≡ false
deed_named transaction request (deeds.Transfer info) r name = rw name refl
deed_named transaction request (deeds.ModifyTransfer id info) r name = rw name refl
deed_named transaction request (deeds.CancelTransfer id) r name = rw name refl
deed_named transaction request (deeds.Model recur info) r name = rw name refl
deed_named transaction request (deeds.ModifyModel id recur info pending) r name = rw name refl
deed_named transaction request (deeds.CancelModel id pending) r name = rw name refl
deed_named transaction request (deeds.BankMail account text) r name = absurd r
deed_named transaction request (deeds.Mail text) r name = absurd r

mail_named : (transaction : Item) (deed : Deed) → IsMailRequest transaction deed → is_mail transaction ≡ true
mail_named transaction (deeds.BankMail account text) r = rw r.0 refl
mail_named transaction (deeds.Mail text) r = rw r.0 refl
mail_named transaction deed r = absurd r

transaction_again : DeedsAreFound → MailsAreFound → (transaction : Item) (deed : List ℕ × Deed) → IsTransaction transaction deed → transaction_of transaction ≡ Ok deed
unfolding transaction_of
transaction_again bank mails transaction deed (inl d) =
    let other = deed_named transaction d.request deed.1 d.is_request d.is_named in
    rw other ((bank transaction deed.0 deed.1).0 d)
transaction_again bank mails transaction deed (inr d) =
    let is = mail_named transaction deed.1 d.is_request in
    rw is ((mails transaction deed.0 deed.1).0 d)

pub transactions_are_found : DeedsAreFound → MailsAreFound → TransactionsAreFound
transactions_are_found bank mails transaction deed =
    (transaction_again bank mails transaction deed, transaction_found bank mails transaction deed)

pub transaction_faults_have_offsets : DeedFaultsHaveOffsets → MailFaultsHaveOffsets → TransactionFaultsHaveOffsets
unfolding transaction_of
transaction_faults_have_offsets bank mails most transaction h =
    either most Any (is_mail transaction) _ _ (mails most transaction h) (bank most transaction h)

-- ---- answers

answer_found : DeedRepliesAreFound → MailRepliesAreFound → (transaction : Item) (reply : DeedReply) → transaction_reply_of transaction ≡ Ok reply →
    IsTransactionReply transaction reply
unfolding transaction_reply_of
answer_found bank mails transaction reply h = elim (went (is_mail_reply transaction) _ _ _ h) [
  | inl (is, read) ↦ inr ((mails transaction reply).1 read)
  | inr (other, read) ↦ inl ((bank transaction reply).1 read)
]

deed_answer_named : (transaction : Item) (family : Family) → IsDeedReplyNamed transaction family → is_mail_reply transaction ≡ false
deed_answer_named transaction Intra name = rw name refl
deed_answer_named transaction RecIntra name = rw name refl
deed_answer_named transaction BankMail h = absurd h
deed_answer_named transaction Mail h = absurd h

mail_answer_named : (transaction : Item) (family : Family) → IsMailReplyNamed transaction family → is_mail_reply transaction ≡ true
mail_answer_named transaction BankMail name = rw name refl
mail_answer_named transaction Mail name = rw name refl
mail_answer_named transaction Intra h = absurd h
mail_answer_named transaction RecIntra h = absurd h

answer_again : DeedRepliesAreFound → MailRepliesAreFound → (transaction : Item) (reply : DeedReply) → IsTransactionReply transaction reply →
    transaction_reply_of transaction ≡ Ok reply
unfolding transaction_reply_of
answer_again bank mails transaction reply (inl d) =
    let other = deed_answer_named transaction reply.family d.is_named in
    rw other ((bank transaction reply).0 d)
answer_again bank mails transaction reply (inr d) =
    let is = mail_answer_named transaction reply.family d.is_named in
    rw is ((mails transaction reply).0 d)

pub answers_are_found : DeedRepliesAreFound → MailRepliesAreFound → TransactionRepliesAreFound
answers_are_found bank mails transaction reply =
    (answer_again bank mails transaction reply, answer_found bank mails transaction reply)

pub answer_faults_have_offsets : DeedReplyFaultsHaveOffsets → MailReplyFaultsHaveOffsets → TransactionReplyFaultsHaveOffsets
unfolding transaction_reply_of
answer_faults_have_offsets bank mails most transaction h =
    either most Any (is_mail_reply transaction) _ _ (mails most transaction h) (bank most transaction h)
