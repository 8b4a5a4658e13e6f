-- A reply has its form exactly where reading finds it.
use Rattle.std.proofs.Common.{◌≡◌, ℕ, inl, inr, true, false, List, Result, Ok, codes, refl, sym, ap, subst, ◌∙◌}
use Rattle.ofx_types.specs.TagNames.{is_one_of}
use Rattle.ofx_types.specs.Nodes.{Item}
use Rattle.ofx_types.specs.FormWords.{has_name, ◌>>=◌, one, maybe}
use Rattle.ofx_types.specs.ReplyGrammar.{IsStatementReply}
use Rattle.ofx_types.specs.ReplyReading.{signon_reply_of, statement_reply_of}
use Rattle.ofx_types.specs.DeedForm.{reply_name, IsDeedReplyNamed}
use Rattle.ofx_types.specs.MailForm.{IsMailReplyNamed}
use Rattle.ofx_types.specs.SyncForm.{object_family, sync_reply_name, IsTransactionReply}
use Rattle.ofx_types.specs.SyncReading.{transaction_reply_of, sync_reply_of}
use Rattle.ofx_types.specs.MessageForm.{is_named_one_of, bank_reply_names, mail_reply_names, IsAskReply, IsReply}
use Rattle.ofx_types.specs.MessageReading.{messages_in, ReplyParts, transaction_reply_names, ask_reply_of, reply_of}
use Rattle.ofx_types.specs.declared.fault.TreeFault.{TreeFault}
use Rattle.ofx_types.specs.declared.number.Moment.{Moment}
use Rattle.ofx_types.specs.declared.transfer.Family.{Family}
use Rattle.ofx_types.specs.declared.transfer.Family.TheVariants.{Intra, RecIntra, BankMail, Mail}
use Rattle.ofx_types.specs.declared.transfer.DeedReply.{DeedReply}
use Rattle.ofx_types.specs.declared.sync.SyncReply.{SyncReply}
use Rattle.ofx_types.specs.declared.reply.AskReply.{AskReply}
use Rattle.ofx_types.specs.declared.reply.AskReply.TheVariants.{Statement, One, Sync}
use Rattle.ofx_types.proofs.Bytes.{bytes_eq_is, went}
use Rattle.ofx_tree.proofs.FormLaws.{bind_ok, bind_to, one_value, one_found, one_again}
use Rattle.msg_statement.specs.StatementLaws.{StatementRepliesAreFound}
use Rattle.msg_mail.specs.SignonLaws.{SignonRepliesAreFound}
use Rattle.msg_sync.specs.SyncLaws.{TransactionRepliesAreFound, SyncRepliesAreFound}
use Rattle.msg_sync.proofs.Forms.{AreRead}
use Rattle.ofx_file.specs.FileLaws.{RepliesAreFound}
use Rattle.ofx_file.proofs.InSets.{set_found, set_again}

-- the laws of the messages that a reply is made of
pub record Laws : Type 0 where
  pub statements : StatementRepliesAreFound
  pub transactions : TransactionRepliesAreFound
  pub syncs : SyncRepliesAreFound
  pub signons : SignonRepliesAreFound

-- ---- one reply

statement_found : Laws → (reply : Item) (answer : AskReply) → reply.node.name ≡ codes "STMTTRNRS" → statement_reply_of reply ≡ Ok answer → IsAskReply reply answer
statement_found laws reply answer name h =
    let is = (laws.statements reply answer).1 h in
    let P : AskReply → Type 0 = λ a. IsStatementReply reply a → IsAskReply reply a in
    subst P (sym is.is_reply) (λ s. (name, s)) is

transaction_found : Laws → (reply : Item) (answer : AskReply) → (transaction_reply_of reply >>= λ said. Ok (One said)) ≡ Ok answer → IsAskReply reply answer
transaction_found laws reply answer h =
    let said = bind_ok (transaction_reply_of reply) _ answer h in
    let P : AskReply → Type 0 = λ a. IsAskReply reply a in
    subst P (one_value _ _ answer refl said.2) ((laws.transactions reply said.0).1 said.1)

sync_found : Laws → (reply : Item) (answer : AskReply) → (sync_reply_of reply >>= λ said. Ok (Sync said)) ≡ Ok answer → IsAskReply reply answer
sync_found laws reply answer h =
    let said = bind_ok (sync_reply_of reply) _ answer h in
    let P : AskReply → Type 0 = λ a. IsAskReply reply a in
    subst P (one_value _ _ answer refl said.2) ((laws.syncs reply said.0).1 said.1)

answer_found : Laws → (reply : Item) (answer : AskReply) → ask_reply_of reply ≡ Ok answer → IsAskReply reply answer
unfolding ask_reply_of
answer_found laws reply answer h = elim (went (has_name (codes "STMTTRNRS") reply) _ _ _ h) [
  | inl (is, read) ↦ statement_found laws reply answer (bytes_eq_is _ _ is) read
  | inr (other, more) ↦ elim (went (is_named_one_of transaction_reply_names reply) _ _ _ more) [
    | inl (is, read) ↦ transaction_found laws reply answer read
    | inr (none, read) ↦ sync_found laws reply answer read
  ]
]

-- the transaction of an answer has one of their names
answer_named : (reply : Item) (family : Family) → reply.node.name ≡ reply_name family →
    (has_name (codes "STMTTRNRS") reply ≡ false) × (is_named_one_of transaction_reply_names reply ≡ true)
answer_named reply Intra name = rw name (refl, refl)
answer_named reply RecIntra name = rw name (refl, refl)
answer_named reply BankMail name = rw name (refl, refl)
answer_named reply Mail name = rw name (refl, refl)

deed_named : (reply : Item) (family : Family) → IsDeedReplyNamed reply family →
    (has_name (codes "STMTTRNRS") reply ≡ false) × (is_named_one_of transaction_reply_names reply ≡ true)
deed_named reply Intra name = answer_named reply Intra name
deed_named reply RecIntra name = answer_named reply RecIntra name
deed_named reply BankMail h = absurd h
deed_named reply Mail h = absurd h

mail_named : (reply : Item) (family : Family) → IsMailReplyNamed reply family →
    (has_name (codes "STMTTRNRS") reply ≡ false) × (is_named_one_of transaction_reply_names reply ≡ true)
mail_named reply BankMail name = answer_named reply BankMail name
mail_named reply Mail name = answer_named reply Mail name
mail_named reply Intra h = absurd h
mail_named reply RecIntra h = absurd h

transaction_named : (reply : Item) (said : DeedReply) → IsTransactionReply reply said →
    (has_name (codes "STMTTRNRS") reply ≡ false) × (is_named_one_of transaction_reply_names reply ≡ true)
transaction_named reply said (inl d) = deed_named reply said.family d.is_named
transaction_named reply said (inr d) = mail_named reply said.family d.is_named

sync_named : (reply : Item) (family : Family) → reply.node.name ≡ sync_reply_name family →
    (has_name (codes "STMTTRNRS") reply ≡ false) × (is_named_one_of transaction_reply_names reply ≡ false)
sync_named reply Intra name = rw name (refl, refl)
sync_named reply RecIntra name = rw name (refl, refl)
sync_named reply BankMail name = rw name (refl, refl)
sync_named reply Mail name = rw name (refl, refl)

-- what is read of a reply to a deed is read of the answer that it is
pub transaction_branch_read : (family : Family) (reply : Item) (said : DeedReply) → reply.node.name ≡ reply_name family → transaction_reply_of reply ≡ Ok said →
    ask_reply_of reply ≡ Ok (One said)
unfolding ask_reply_of
transaction_branch_read family reply said name h =
    let named = answer_named reply family name in
    rw (named.0, named.1) (bind_to (transaction_reply_of reply) _ said h)

-- and the same of a synchronisation
pub sync_branch_read : (family : Family) (reply : Item) (said : SyncReply) → reply.node.name ≡ sync_reply_name family → sync_reply_of reply ≡ Ok said → ask_reply_of reply ≡ Ok (Sync said)
unfolding ask_reply_of
sync_branch_read family reply said name h =
    let named = sync_named reply family name in
    rw (named.0, named.1) (bind_to (sync_reply_of reply) _ said h)

answer_again : Laws → (reply : Item) (answer : AskReply) → IsAskReply reply answer → ask_reply_of reply ≡ Ok answer
unfolding ask_reply_of
answer_again laws reply (Statement trnuid code body) (name, is) =
    let named : has_name (codes "STMTTRNRS") reply ≡ true = rw name refl in
    rw named ((laws.statements reply (Statement trnuid code body)).0 is)
answer_again laws reply (One said) is =
    let named = transaction_named reply said is in
    rw (named.0, named.1) (bind_to (transaction_reply_of reply) _ said ((laws.transactions reply said).0 is))
answer_again laws reply (Sync said) is =
    let named = sync_named reply (object_family said.object) is.is_named in
    rw (named.0, named.1) (bind_to (sync_reply_of reply) _ said ((laws.syncs reply said).0 is))

bank_read : Laws → AreRead IsAskReply ask_reply_of (is_one_of bank_reply_names)
bank_read laws reply answer named = (answer_again laws reply answer, answer_found laws reply answer)

mail_read : Laws → AreRead IsAskReply ask_reply_of (is_one_of mail_reply_names)
mail_read laws reply answer named = (answer_again laws reply answer, answer_found laws reply answer)

-- ---- the whole reply

reply_found : Laws → (ofx : Item) (parts : ReplyParts) → reply_of ofx ≡ Ok parts → IsReply ofx parts.signon parts.moment parts.replies
unfolding reply_of
reply_found laws ofx parts h =
    let set = bind_ok (one (codes "SIGNONMSGSRSV1") ofx) _ parts h in
    let sonrs = bind_ok (one (codes "SONRS") set.0) _ parts set.2 in
    let signon = bind_ok (signon_reply_of sonrs.0) _ parts sonrs.2 in
    let bank_set = bind_ok (maybe (codes "BANKMSGSRSV1") ofx) _ parts signon.2 in
    let bank = bind_ok (messages_in ask_reply_of bank_reply_names bank_set.0) _ parts bank_set.2 in
    let mail_set = bind_ok (maybe (codes "EMAILMSGSRSV1") ofx) _ parts bank.2 in
    let mail = bind_ok (messages_in ask_reply_of mail_reply_names mail_set.0) _ parts mail_set.2 in
    let P : ReplyParts → Type 0 = λ p. IsReply ofx p.signon p.moment p.replies in
    subst P (one_value _ _ parts refl mail.2) (record {
      signon_set = set.0;
      has_signon_set = one_found (codes "SIGNONMSGSRSV1") ofx set.0 set.1;
      sonrs = sonrs.0;
      has_sonrs = one_found (codes "SONRS") set.0 sonrs.0 sonrs.1;
      is_signon = (laws.signons sonrs.0 signon.0.0 signon.0.1).1 signon.1;
      bank = bank.0;
      are_bank = set_found IsAskReply ask_reply_of (codes "BANKMSGSRSV1") bank_reply_names (bank_read laws) ofx bank_set.0 bank.0 bank_set.1 bank.1;
      mail = mail.0;
      are_mail = set_found IsAskReply ask_reply_of (codes "EMAILMSGSRSV1") mail_reply_names (mail_read laws) ofx mail_set.0 mail.0 mail_set.1 mail.1;
      are_answers = refl;
    })

unfoldable pub parts_with : ℕ → Moment → List AskReply → ReplyParts
parts_with signon moment replies = record { signon = signon; moment = moment; replies = replies }

reply_again : Laws → (ofx : Item) (parts : ReplyParts) → IsReply ofx parts.signon parts.moment parts.replies → reply_of ofx ≡ Ok parts
unfolding reply_of parts_with
reply_again laws ofx parts r =
    let bank = set_again IsAskReply ask_reply_of (codes "BANKMSGSRSV1") bank_reply_names (bank_read laws) ofx r.bank r.are_bank in
    let mail = set_again IsAskReply ask_reply_of (codes "EMAILMSGSRSV1") mail_reply_names (mail_read laws) ofx r.mail r.are_mail in
    bind_to _ _ r.signon_set (one_again (codes "SIGNONMSGSRSV1") ofx r.signon_set r.has_signon_set)
    ∙ bind_to _ _ r.sonrs (one_again (codes "SONRS") r.signon_set r.sonrs r.has_sonrs)
    ∙ bind_to _ _ (parts.signon, parts.moment) ((laws.signons r.sonrs parts.signon parts.moment).0 r.is_signon)
    ∙ bind_to _ _ bank.0 bank.1
    ∙ bind_to _ _ r.bank bank.2
    ∙ bind_to _ _ mail.0 mail.1
    ∙ bind_to _ _ r.mail mail.2
    ∙ ap (λ (replies : List AskReply). let read : Result ReplyParts TreeFault = Ok (parts_with parts.signon parts.moment replies) in read) (sym r.are_answers)

pub replies_are_found : Laws → RepliesAreFound
replies_are_found laws ofx parts = (reply_again laws ofx parts, reply_found laws ofx parts)
