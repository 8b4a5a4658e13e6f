-- The reply to a synchronisation has its form exactly where reading finds it, and its faults have offsets.
use Rattle.std.proofs.Common.{◌≡◌, ℕ, filter, List, Ok, codes, refl, sym, ap, subst, ◌∙◌}
use Rattle.std.specs.List.{AllZip, AllByRecursion}
use Rattle.ofx_types.specs.Nodes.{Item, children}
use Rattle.ofx_types.specs.FormWords.{has_name, text_in, maybe_flag_in}
use Rattle.ofx_types.specs.DeedForm.{reply_name}
use Rattle.ofx_types.specs.SyncForm.{IsTransactionReply, object_family, sync_reply_name, IsSyncReply}
use Rattle.ofx_types.specs.SyncReading.{transaction_reply_of, object_in, family_reported_of, replies_of, sync_reply_of}
use Rattle.ofx_types.specs.declared.transfer.DeedReply.{DeedReply}
use Rattle.ofx_types.specs.declared.transfer.Family.{Family}
use Rattle.ofx_types.specs.declared.transfer.Family.TheVariants.{Intra, RecIntra, BankMail, Mail}
use Rattle.ofx_types.specs.declared.sync.SyncReply.{SyncReply}
use Rattle.ofx_tree.specs.Located.{Holds, Any, IsWithin}
use Rattle.ofx_tree.proofs.FormLaws.{bind_ok, bind_to, one_value, text_in_found, text_in_again, maybe_flag_in_found, maybe_flag_in_again}
use Rattle.ofx_tree.proofs.FormOffsets.{bound, text_within, maybe_flag_within, children_within}
use Rattle.msg_sync.specs.SyncLaws.{TransactionRepliesAreFound, TransactionReplyFaultsHaveOffsets, SyncRepliesAreFound, SyncReplyFaultsHaveOffsets}
use Rattle.msg_sync.specs.SyncSteps.{is_name_of}
use Rattle.msg_sync.proofs.Deeds.{replies_are}
use Rattle.msg_sync.proofs.Families.{name_of_family, family_within, object_found, object_again, object_within}
use Rattle.msg_sync.proofs.Forms.{AreRead, forms_found, forms_again, forms_within}

-- ---- the answers

abbrev AreAnswers : Family → Item → List DeedReply → Type 0
AreAnswers family sync replies = AllZip IsTransactionReply (filter (has_name (reply_name family)) (children sync)) replies

answers_read : TransactionRepliesAreFound → (family : Family) → AreRead IsTransactionReply transaction_reply_of (is_name_of (reply_name family))
answers_read answers family item reply is = answers item reply

answers_found : TransactionRepliesAreFound → (family : Family) (sync : Item) (replies : List DeedReply) →
    replies_of (reply_name family) (children sync) ≡ Ok replies → AreAnswers family sync replies
answers_found answers family sync replies h =
    let name = reply_name family in
    forms_found IsTransactionReply transaction_reply_of (is_name_of name) (answers_read answers family) (children sync) replies
    (sym (replies_are name (children sync)) ∙ h)

answers_again : TransactionRepliesAreFound → (family : Family) (sync : Item) (replies : List DeedReply) → AreAnswers family sync replies →
    replies_of (reply_name family) (children sync) ≡ Ok replies
answers_again answers family sync replies h =
    let name = reply_name family in
    replies_are name (children sync)
    ∙ forms_again IsTransactionReply transaction_reply_of (is_name_of name) (answers_read answers family) (children sync) replies h

answers_within : TransactionReplyFaultsHaveOffsets → (most : ℕ) (name : List ℕ) (items : List Item) → AllByRecursion (IsWithin most) items →
    Holds most Any (replies_of name items)
answers_within offsets most name items h =
    rw (replies_are name items) (forms_within most transaction_reply_of (is_name_of name) (offsets most) items h)

-- ---- the reply

pub reported_again : (sync : Item) (family : Family) → sync.node.name ≡ sync_reply_name family → family_reported_of sync ≡ Ok family
reported_again sync Intra name = rw name refl
reported_again sync RecIntra name = rw name refl
reported_again sync BankMail name = rw name refl
reported_again sync Mail name = rw name refl

reply_found : TransactionRepliesAreFound → (sync : Item) (reply : SyncReply) → sync_reply_of sync ≡ Ok reply → IsSyncReply sync reply
unfolding sync_reply_of
reply_found answers sync reply h =
    let reported = bind_ok (family_reported_of sync) _ reply h in
    let family = reported.0 in
    let token = bind_ok (text_in (codes "TOKEN") 64 sync) _ reply reported.2 in
    let lost = bind_ok (maybe_flag_in (codes "LOSTSYNC") sync) _ reply token.2 in
    let object = bind_ok (object_in family sync) _ reply lost.2 in
    let replies = bind_ok (replies_of (reply_name family) (children sync)) _ reply object.2 in
    let named_so = object_found family sync object.0 object.1 in
    let Are : Family → Type 0 = λ f. AreAnswers f sync replies.0 in
    subst (IsSyncReply sync) (one_value _ _ reply refl replies.2) (record {
      is_named = name_of_family sync_reply_name sync.node.name _ family reported.1 ∙ ap sync_reply_name (sym named_so.0);
      token = text_in_found (codes "TOKEN") 64 sync token.0 token.1;
      lost = maybe_flag_in_found (codes "LOSTSYNC") sync lost.0 lost.1;
      object = named_so.1;
      replies = subst Are (sym named_so.0) (answers_found answers family sync replies.0 replies.1);
    })

reply_again : TransactionRepliesAreFound → (sync : Item) (reply : SyncReply) → IsSyncReply sync reply → sync_reply_of sync ≡ Ok reply
unfolding sync_reply_of
reply_again answers sync reply s =
    bind_to (family_reported_of sync) _ (object_family reply.object) (reported_again sync (object_family reply.object) s.is_named)
    ∙ bind_to _ _ reply.token (text_in_again (codes "TOKEN") 64 sync reply.token s.token)
    ∙ bind_to _ _ reply.lost (maybe_flag_in_again (codes "LOSTSYNC") sync reply.lost s.lost)
    ∙ bind_to _ _ reply.object (object_again sync reply.object s.object)
    ∙ bind_to _ _ reply.replies (answers_again answers (object_family reply.object) sync reply.replies s.replies)

pub sync_replies_are_found : TransactionRepliesAreFound → SyncRepliesAreFound
sync_replies_are_found answers sync reply = (reply_again answers sync reply, reply_found answers sync reply)

pub sync_reply_faults_have_offsets : TransactionReplyFaultsHaveOffsets → SyncReplyFaultsHaveOffsets
unfolding sync_reply_of
sync_reply_faults_have_offsets offsets most sync h =
    bound most Any Any (family_reported_of sync) _ (family_within most sync.node.offset sync.node.name sync_reply_name h.offset) (λ family _.
    bound most Any Any (text_in (codes "TOKEN") 64 sync) _ (text_within most (codes "TOKEN") 64 sync h) (λ token _.
    bound most Any Any (maybe_flag_in (codes "LOSTSYNC") sync) _ (maybe_flag_within most (codes "LOSTSYNC") sync h) (λ lost _.
    bound most Any Any (object_in family sync) _ (object_within most family sync h) (λ object _.
    bound most Any Any (replies_of (reply_name family) (children sync)) _
    (answers_within offsets most (reply_name family) (children sync) (children_within most sync h)) (λ replies _. tt)))))
