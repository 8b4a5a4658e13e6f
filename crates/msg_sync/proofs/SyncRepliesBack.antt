-- Sound replies to synchronisations read back as they were written, apart from the models of changed transfers.
use Rattle.std.proofs.Common.{◌≡◌, ℕ, ◌+◌, ◌⊎◌, inl, inr, Bool, true, false, List, [], ◌∷◌, length, map, Option, None, Some, Ok, codes, refl, ap, ◌∙◌, arith}
use Rattle.std.specs.List.{AllByRecursion}
use Rattle.ofx_types.specs.Sheet as sheet
use Rattle.ofx_types.specs.Sheet.{start_line}
use Rattle.ofx_types.specs.Nodes.{Item, children}
use Rattle.ofx_types.specs.FormWords.{flag_word, text_in, maybe_flag_in}
use Rattle.ofx_types.specs.DeedForm.{reply_name}
use Rattle.ofx_types.specs.MailReading.{account_in}
use Rattle.ofx_types.specs.SyncForm.{object_family, sync_reply_name}
use Rattle.ofx_types.specs.SyncReading.{is_mail_reply, transaction_reply_of, object_in, family_reported_of, replies_of, sync_reply_of}
use Rattle.ofx_types.specs.Wire.{wire}
use Rattle.ofx_types.specs.declared.account.AcctName.{AcctName}
use Rattle.ofx_types.specs.declared.transfer.Change.{Change}
use Rattle.ofx_types.specs.declared.transfer.Change.TheVariants.{NewMail}
use Rattle.ofx_types.specs.declared.transfer.DeedReply.{DeedReply}
use Rattle.ofx_types.specs.declared.transfer.Family.{Family}
use Rattle.ofx_types.specs.declared.transfer.Family.TheVariants as families
use Rattle.ofx_types.specs.declared.sync.ObjectName.{ObjectName}
use Rattle.ofx_types.specs.declared.sync.ObjectName.TheVariants.{Intra, RecIntra, BankMail, Mail}
use Rattle.ofx_types.specs.declared.sync.SyncReply.{SyncReply}
use Rattle.ofx_types.proofs.Bytes.{bytes_eq_self}
use Rattle.ofx_tree.specs.Documents.{Documents, leaf, branch, AreLawful, leaf_item, branch_item, items_of}
use Rattle.ofx_tree.proofs.DocumentItems.{children_of_branch, named_of_branch}
use Rattle.ofx_tree.proofs.FormLaws.{bind_to}
use Rattle.ofx_tree.proofs.Leaves.{text_of_leaf, maybe_flag_of_leaf}
use Rattle.msg_parts.specs.PartDocuments.{account_documents}
use Rattle.msg_deed.specs.DeedsReadBack.{DeedRepliesReadBack}
use Rattle.msg_parts.proofs.Lawful.{named}
use Rattle.msg_mail.specs.SoundMails.{IsSoundMailByCode, IsSoundMailReply}
use Rattle.msg_mail.specs.MailsAsDocuments.{MailRepliesReadBack}
use Rattle.msg_sync.specs.Listing.{forms_of, branches}
use Rattle.msg_sync.specs.SyncSteps.{is_name_of}
use Rattle.msg_sync.specs.SoundSyncs.{IsSoundObject, IsSoundReportedIn, IsSoundSyncReply}
use Rattle.msg_sync.specs.SyncsAsDocuments.{answer_name, answer_inner, AnswersAreLawful, AnswersReadBack, object_document, sync_reply_inner, SyncRepliesReadBack}
use Rattle.msg_sync.proofs.Deeds.{replies_are}
use Rattle.msg_sync.proofs.Forms.{wanted, branches_read, branches_passed}
use Rattle.msg_sync.proofs.Skipped.{Everywhere, wanted_skips, forms_skip, leaf_skipped, object_skipped, IsNone}
use Rattle.msg_sync.proofs.SyncDocuments.{sync_reply_lawful}
use Rattle.msg_sync.proofs.SyncReplies.{reported_again}
use Rattle.msg_sync.proofs.SyncsBack.{HasAccountItem, account_holds, account_in_prefix, account_skips}

-- ---- answers

abbrev answer_item : ℕ → ℕ → DeedReply → Item
answer_item offset index reply = branch_item offset index (answer_name reply) (answer_inner reply)

-- an answer of this family, wherever it is
no_mail : (offset index : ℕ) (reply : DeedReply) → (reply.family ≡ families.Intra) ⊎ (reply.family ≡ families.RecIntra) → is_mail_reply (answer_item offset index reply) ≡ false
no_mail offset index reply (inl is) = rw is refl
no_mail offset index reply (inr is) = rw is refl

a_mail : (offset index : ℕ) (reply : DeedReply) → (reply.family ≡ families.BankMail) ⊎ (reply.family ≡ families.Mail) → is_mail_reply (answer_item offset index reply) ≡ true
a_mail offset index reply (inl is) = rw is refl
a_mail offset index reply (inr is) = rw is refl

reply_with : List ℕ → Family → ℕ → Option Change → DeedReply
reply_with trnuid family code change = record { trnuid = trnuid; family = family; code = code; change = change }

-- an answer to a mail says all that it says
mail_same : (trnuid : List ℕ) (family : Family) (code : ℕ) (change : Option Change) → IsSoundMailByCode code family change →
    reply_with trnuid family code change ≡ wire (reply_with trnuid family code change)
unfolding reply_with
mail_same trnuid family code None h = refl
mail_same trnuid family code (Some (NewMail row)) h = refl
mail_same trnuid family code (Some change) h = absurd h.2

mail_whole : (reply : DeedReply) → IsSoundMailReply reply → reply ≡ wire reply
unfolding reply_with
mail_whole reply r = mail_same reply.trnuid reply.family reply.code reply.change r.is_mail

pub answers_back : DeedRepliesReadBack → MailRepliesReadBack → AnswersReadBack
unfolding transaction_reply_of
answers_back bank mails offset index reply (inl r) = rw (no_mail offset index reply r.is_family) (bank offset index reply r)
answers_back bank mails offset index reply (inr r) = rw (a_mail offset index reply r.is_family) (mails offset index reply r ∙ ap Ok (mail_whole reply r))

-- ---- what follows the token and the flag

abbrev replies_documents : List DeedReply → Documents
replies_documents replies = branches answer_name answer_inner replies

no_answer : (is_wanted : List ℕ → Bool) → ((family : Family) → is_wanted (reply_name family) ≡ false) → (object : ObjectName) (replies : List DeedReply) →
    AllByRecursion (IsSoundReportedIn (object_family object)) replies → Everywhere (IsNone is_wanted) (replies_documents replies)
no_answer is_wanted other object replies sound offset index =
    branches_passed (IsSoundReportedIn (object_family object)) answer_name answer_inner is_wanted (λ reply is. other reply.family) offset index replies sound

none_after : (is_wanted : List ℕ → Bool) → is_wanted (codes "BANKACCTFROM") ≡ false → ((family : Family) → is_wanted (reply_name family) ≡ false) →
    (object : ObjectName) (replies : List DeedReply) → AllByRecursion (IsSoundReportedIn (object_family object)) replies →
    Everywhere (IsNone is_wanted) (object_document object (replies_documents replies))
none_after is_wanted account other object replies sound =
    object_skipped (IsNone is_wanted) is_wanted (wanted_skips is_wanted []) account object (replies_documents replies) (no_answer is_wanted other object replies sound)

no_token_name : (family : Family) → is_name_of (codes "TOKEN") (reply_name family) ≡ false
no_token_name families.Intra = refl
no_token_name families.RecIntra = refl
no_token_name families.BankMail = refl
no_token_name families.Mail = refl

no_lost_name : (family : Family) → is_name_of (codes "LOSTSYNC") (reply_name family) ≡ false
no_lost_name families.Intra = refl
no_lost_name families.RecIntra = refl
no_lost_name families.BankMail = refl
no_lost_name families.Mail = refl

no_account_name : (family : Family) → is_name_of (codes "BANKACCTFROM") (reply_name family) ≡ false
no_account_name families.Intra = refl
no_account_name families.RecIntra = refl
no_account_name families.BankMail = refl
no_account_name families.Mail = refl

-- ---- the token and the flag

token_holds : (offset index : ℕ) (reply : SyncReply) → IsSoundSyncReply reply →
    wanted (is_name_of (codes "TOKEN")) (items_of offset index (sync_reply_inner reply)) ≡ leaf_item offset index (codes "TOKEN") reply.token ∷ []
token_holds offset index reply s =
    let is_token : List ℕ → Bool = is_name_of (codes "TOKEN") in
    ap (λ (more : List Item). leaf_item offset index (codes "TOKEN") reply.token ∷ more)
    (leaf_skipped (IsNone is_token) is_token (wanted_skips is_token []) (codes "LOSTSYNC") (flag_word reply.lost)
    (object_document reply.object (replies_documents reply.replies)) refl
    (none_after is_token refl no_token_name reply.object reply.replies s.replies) _ _)

lost_holds : (offset index : ℕ) (reply : SyncReply) → IsSoundSyncReply reply →
    (at : ℕ) × (first : ℕ)
    × (wanted (is_name_of (codes "LOSTSYNC")) (items_of offset index (sync_reply_inner reply)) ≡ leaf_item at first (codes "LOSTSYNC") (flag_word reply.lost) ∷ [])
lost_holds offset index reply s =
    let at : ℕ = offset + length (sheet.element (codes "TOKEN") reply.token) in (
      at,
      index + 1,
      ap (λ (more : List Item). leaf_item at (index + 1) (codes "LOSTSYNC") (flag_word reply.lost) ∷ more)
          (none_after (is_name_of (codes "LOSTSYNC")) refl no_lost_name reply.object reply.replies s.replies _ _),
    )

-- ---- the object

abbrev reported_with : ObjectName → List ℕ → Bool → List DeedReply → SyncReply
reported_with object token lost replies = record { object = object; token = token; lost = lost; replies = replies }

account_found : (token : List ℕ) (lost : Bool) (account : AcctName) (replies : List DeedReply) →
    Everywhere (IsNone (is_name_of (codes "BANKACCTFROM"))) (replies_documents replies) →
    Everywhere (HasAccountItem account)
    (leaf (codes "TOKEN") token
    (leaf (codes "LOSTSYNC") (flag_word lost) (branch (codes "BANKACCTFROM") (account_documents account) (replies_documents replies))))
account_found token lost account replies none =
    let is_account : List ℕ → Bool = is_name_of (codes "BANKACCTFROM") in
    let from = branch (codes "BANKACCTFROM") (account_documents account) (replies_documents replies) in
    let skips = account_skips account in
    leaf_skipped (HasAccountItem account) is_account skips (codes "TOKEN") token (leaf (codes "LOSTSYNC") (flag_word lost) from) refl
    (leaf_skipped (HasAccountItem account) is_account skips (codes "LOSTSYNC") (flag_word lost) from refl (account_in_prefix account (replies_documents replies) none))

object_back : (offset index : ℕ) (own : List ℕ) (object : ObjectName) (token : List ℕ) (lost : Bool) (replies : List DeedReply) →
    IsSoundObject object → AllByRecursion (IsSoundReportedIn (object_family object)) replies → AreLawful 5 (sync_reply_inner (reported_with object token lost replies)) →
    object_in (object_family object) (branch_item offset index own (sync_reply_inner (reported_with object token lost replies))) ≡ Ok object
object_back offset index own (Intra account) token lost replies o sound lawful =
    let inner = sync_reply_inner (reported_with (Intra account) token lost replies) in
    let item = branch_item offset index own inner in
    let found = account_found token lost account replies (no_answer _ no_account_name (Intra account) replies sound) (offset + length (start_line own)) (index + 1) in
    bind_to (account_in item) _ account (account_holds item account found.0 found.1 o (named_of_branch offset index 5 own (codes "BANKACCTFROM") inner lawful ∙ found.2))
object_back offset index own (RecIntra account) token lost replies o sound lawful =
    let inner = sync_reply_inner (reported_with (RecIntra account) token lost replies) in
    let item = branch_item offset index own inner in
    let found = account_found token lost account replies (no_answer _ no_account_name (RecIntra account) replies sound) (offset + length (start_line own)) (index + 1) in
    bind_to (account_in item) _ account (account_holds item account found.0 found.1 o (named_of_branch offset index 5 own (codes "BANKACCTFROM") inner lawful ∙ found.2))
object_back offset index own (BankMail account) token lost replies o sound lawful =
    let inner = sync_reply_inner (reported_with (BankMail account) token lost replies) in
    let item = branch_item offset index own inner in
    let found = account_found token lost account replies (no_answer _ no_account_name (BankMail account) replies sound) (offset + length (start_line own)) (index + 1) in
    bind_to (account_in item) _ account (account_holds item account found.0 found.1 o (named_of_branch offset index 5 own (codes "BANKACCTFROM") inner lawful ∙ found.2))
object_back offset index own Mail token lost replies o sound lawful = refl

-- ---- the answers

-- neither the token nor the flag nor the account has the name of an answer
beside : (family : Family) →
    (is_name_of (reply_name family) (codes "TOKEN") ≡ false) × (is_name_of (reply_name family) (codes "LOSTSYNC") ≡ false)
    × (is_name_of (reply_name family) (codes "BANKACCTFROM") ≡ false)
beside families.Intra = (refl, refl, refl)
beside families.RecIntra = (refl, refl, refl)
beside families.BankMail = (refl, refl, refl)
beside families.Mail = (refl, refl, refl)

replies_back : AnswersReadBack → (reply : SyncReply) → IsSoundSyncReply reply →
    Everywhere (λ items. forms_of transaction_reply_of (is_name_of (reply_name (object_family reply.object))) items ≡ Ok (map wire reply.replies)) (sync_reply_inner reply)
replies_back reads reply s =
    let family = object_family reply.object in
    let is_wanted : List ℕ → Bool = is_name_of (reply_name family) in
    let Holds : List Item → Type 0 = λ items. forms_of transaction_reply_of is_wanted items ≡ Ok (map wire reply.replies) in
    let skips = forms_skip transaction_reply_of is_wanted (Ok (map wire reply.replies)) in
    let replies = replies_documents reply.replies in
    let others = beside family in
    leaf_skipped Holds is_wanted skips (codes "TOKEN") reply.token (leaf (codes "LOSTSYNC") (flag_word reply.lost) (object_document reply.object replies)) others.0
    (leaf_skipped Holds is_wanted skips (codes "LOSTSYNC") (flag_word reply.lost) (object_document reply.object replies) others.1
    (object_skipped Holds is_wanted skips others.2 reply.object replies (λ offset index.
    branches_read (IsSoundReportedIn family) answer_name answer_inner transaction_reply_of is_wanted wire
    (λ answer is. rw is.1 (bytes_eq_self (reply_name family)))
    (λ at first answer is. reads at first answer is.0)
    offset index reply.replies s.replies)))

-- ---- the reply

pub sync_replies_back : AnswersAreLawful → AnswersReadBack → SyncRepliesReadBack
unfolding sync_reply_of
sync_replies_back lawful reads offset index reply s =
    let family = object_family reply.object in
    let name = sync_reply_name family in
    let inner = sync_reply_inner reply in
    let item = branch_item offset index name inner in
    let are = sync_reply_lawful lawful 5 reply (omega arith) s in
    let at : ℕ = offset + length (start_line name) in
    let lost = lost_holds at (index + 1) reply s in
    bind_to (family_reported_of item) _ family (reported_again item family refl)
    ∙ bind_to (text_in (codes "TOKEN") 64 item) _ reply.token
    (text_of_leaf (codes "TOKEN") reply.token 64 at (index + 1) item are.0 s.token.is_within
    (named_of_branch offset index 5 name (codes "TOKEN") inner are ∙ token_holds at (index + 1) reply s))
    ∙ bind_to (maybe_flag_in (codes "LOSTSYNC") item) _ reply.lost
    (maybe_flag_of_leaf (codes "LOSTSYNC") reply.lost lost.0 lost.1 item (named (codes "LOSTSYNC") refl refl)
    (named_of_branch offset index 5 name (codes "LOSTSYNC") inner are ∙ lost.2))
    ∙ bind_to (object_in family item) _ reply.object
    (object_back offset index name reply.object reply.token reply.lost reply.replies s.object s.replies are)
    ∙ bind_to (replies_of (reply_name family) (children item)) _ (map wire reply.replies)
    (replies_are (reply_name family) (children item)
    ∙ ap (forms_of transaction_reply_of (is_name_of (reply_name family))) (children_of_branch offset index name inner)
    ∙ replies_back reads reply s at (index + 1))
