-- The faults of the forms of requests and replies stand within their nodes.
use Rattle.std.proofs.Common.{ℕ, codes}
use Rattle.std.specs.Option.{IfSome}
use Rattle.ofx_types.specs.Nodes.{Item}
use Rattle.ofx_types.specs.FormWords.{has_name, one, maybe}
use Rattle.ofx_types.specs.MessageForm.{is_named_one_of, bank_names, mail_names, bank_reply_names, mail_reply_names}
use Rattle.ofx_types.specs.RequestReading.{signon_of}
use Rattle.ofx_types.specs.ReplyReading.{signon_reply_of}
use Rattle.ofx_types.specs.SyncReading.{transaction_of, transaction_reply_of, sync_of, sync_reply_of}
use Rattle.ofx_types.specs.MessageReading.{messages_in, transaction_names, one_ask, ask_of, request_of, transaction_reply_names, ask_reply_of, reply_of}
use Rattle.ofx_tree.specs.Located.{Holds, Any, IsWithin}
use Rattle.ofx_tree.proofs.FormOffsets.{bound, either, one_within, maybe_within}
use Rattle.msg_statement.specs.StatementLaws.{StatementFaultsHaveOffsets, StatementReplyFaultsHaveOffsets}
use Rattle.msg_mail.specs.SignonLaws.{SignonFaultsHaveOffsets, SignonReplyFaultsHaveOffsets}
use Rattle.msg_sync.specs.SyncLaws.{TransactionFaultsHaveOffsets, TransactionReplyFaultsHaveOffsets, SyncFaultsHaveOffsets, SyncReplyFaultsHaveOffsets}
use Rattle.ofx_file.specs.FileLaws.{RequestFaultsHaveOffsets, ReplyFaultsHaveOffsets}
use Rattle.ofx_file.proofs.InSets.{messages_within}

-- the laws of the messages that a request is made of
pub record Laws : Type 0 where
  pub statements : StatementFaultsHaveOffsets
  pub transactions : TransactionFaultsHaveOffsets
  pub syncs : SyncFaultsHaveOffsets
  pub signons : SignonFaultsHaveOffsets

ask_within : Laws → (most : ℕ) (request : Item) → IsWithin most request → Holds most Any (ask_of request)
unfolding ask_of
ask_within laws most request h =
    either most Any (has_name (codes "STMTTRNRQ") request) _ _ (laws.statements most request h)
    (either most Any (is_named_one_of transaction_names request) _ _
    (bound most Any Any (transaction_of request) one_ask (laws.transactions most request h) (λ deed _. tt))
    (bound most Any Any (sync_of request) _ (laws.syncs most request h) (λ ask _. tt)))

pub request_within : Laws → RequestFaultsHaveOffsets
unfolding request_of
request_within laws most ofx h =
    bound most (IsWithin most) Any (one (codes "SIGNONMSGSRQV1") ofx) _ (one_within most (codes "SIGNONMSGSRQV1") ofx h) (λ set s.
    bound most (IsWithin most) Any (one (codes "SONRQ") set) _ (one_within most (codes "SONRQ") set s) (λ sonrq r.
    bound most Any Any (signon_of sonrq) _ (laws.signons most sonrq r) (λ signon _.
    bound most (λ found. IfSome found (IsWithin most)) Any (maybe (codes "BANKMSGSRQV1") ofx) _ (maybe_within most (codes "BANKMSGSRQV1") ofx h) (λ bank_set b.
    bound most Any Any (messages_in ask_of bank_names bank_set) _ (messages_within most ask_of bank_names (ask_within laws most) bank_set b) (λ bank _.
    bound most (λ found. IfSome found (IsWithin most)) Any (maybe (codes "EMAILMSGSRQV1") ofx) _ (maybe_within most (codes "EMAILMSGSRQV1") ofx h) (λ mail_set m.
    bound most Any Any (messages_in ask_of mail_names mail_set) _ (messages_within most ask_of mail_names (ask_within laws most) mail_set m) (λ mail _. tt)))))))

-- and those that a reply is made of
pub record ReplyLaws : Type 0 where
  pub statements : StatementReplyFaultsHaveOffsets
  pub transactions : TransactionReplyFaultsHaveOffsets
  pub syncs : SyncReplyFaultsHaveOffsets
  pub signons : SignonReplyFaultsHaveOffsets

answer_within : ReplyLaws → (most : ℕ) (reply : Item) → IsWithin most reply → Holds most Any (ask_reply_of reply)
unfolding ask_reply_of
answer_within laws most reply h =
    either most Any (has_name (codes "STMTTRNRS") reply) _ _ (laws.statements most reply h)
    (either most Any (is_named_one_of transaction_reply_names reply) _ _
    (bound most Any Any (transaction_reply_of reply) _ (laws.transactions most reply h) (λ said _. tt))
    (bound most Any Any (sync_reply_of reply) _ (laws.syncs most reply h) (λ said _. tt)))

pub reply_within : ReplyLaws → ReplyFaultsHaveOffsets
unfolding reply_of
reply_within laws most ofx h =
    bound most (IsWithin most) Any (one (codes "SIGNONMSGSRSV1") ofx) _ (one_within most (codes "SIGNONMSGSRSV1") ofx h) (λ set s.
    bound most (IsWithin most) Any (one (codes "SONRS") set) _ (one_within most (codes "SONRS") set s) (λ sonrs r.
    bound most Any Any (signon_reply_of sonrs) _ (laws.signons most sonrs r) (λ signon _.
    bound most (λ found. IfSome found (IsWithin most)) Any (maybe (codes "BANKMSGSRSV1") ofx) _ (maybe_within most (codes "BANKMSGSRSV1") ofx h) (λ bank_set b.
    bound most Any Any (messages_in ask_reply_of bank_reply_names bank_set) _ (messages_within most ask_reply_of bank_reply_names (answer_within laws most) bank_set b) (λ bank _.
    bound most (λ found. IfSome found (IsWithin most)) Any (maybe (codes "EMAILMSGSRSV1") ofx) _ (maybe_within most (codes "EMAILMSGSRSV1") ofx h) (λ mail_set m.
    bound most Any Any (messages_in ask_reply_of mail_reply_names mail_set) _ (messages_within most ask_reply_of mail_reply_names (answer_within laws most) mail_set m) (λ mail _. tt)))))))
