-- Sound synchronisations read back as they were written.
use Rattle.std.proofs.Common.{◌≡◌, ℕ, ◌+◌, inl, inr, Bool, true, false, List, [], ◌∷◌, length, map, Ok, codes, refl, ap, ◌∙◌, arith}
use Rattle.std.specs.List.{AllByRecursion}
use Rattle.ofx_types.specs.Sheet.{start_line}
use Rattle.ofx_types.specs.TagNames.{is_one_of}
use Rattle.ofx_types.specs.Nodes.{Item, children}
use Rattle.ofx_types.specs.FormWords.{IsOnly, flag_word, one, one_of, flag_in}
use Rattle.ofx_types.specs.DeedForm.{family_of, request_name}
use Rattle.ofx_types.specs.MailReading.{account_in}
use Rattle.ofx_types.specs.RequestReading.{account_of}
use Rattle.ofx_types.specs.SyncForm.{object_family, sync_name, sync_kinds, IsKind}
use Rattle.ofx_types.specs.SyncReading.{is_mail, transaction_of, object_in, family_synced, kind_of, deeds_of, sync_of}
use Rattle.ofx_types.specs.declared.account.AcctName.{AcctName}
use Rattle.ofx_types.specs.declared.transfer.Deed.{Deed}
use Rattle.ofx_types.specs.declared.transfer.Deed.TheVariants as deeds
use Rattle.ofx_types.specs.declared.transfer.Family.{Family}
use Rattle.ofx_types.specs.declared.transfer.Family.TheVariants as families
use Rattle.ofx_types.specs.declared.sync.ObjectName.{ObjectName}
use Rattle.ofx_types.specs.declared.sync.ObjectName.TheVariants.{Intra, RecIntra, BankMail, Mail}
use Rattle.ofx_types.specs.declared.sync.SyncKind.{SyncKind}
use Rattle.ofx_types.specs.declared.sync.SyncKind.TheVariants.{After, TokenOnly, Refresh}
use Rattle.ofx_types.specs.declared.sync.SyncAsk.{SyncAsk}
use Rattle.ofx_types.proofs.Bytes.{bytes_eq_self}
use Rattle.ofx_tree.specs.Documents.{Documents, leaf, branch, AreLawful, leaf_item, branch_item, items_of}
use Rattle.ofx_tree.proofs.DocumentItems.{children_of_branch, named_of_branch, named_one_of_branch, value_of_leaf}
use Rattle.ofx_tree.proofs.FormLaws.{bind_to, one_again, one_of_again}
use Rattle.ofx_tree.proofs.Leaves.{flag_leaf, holds_of_leaf, flag_of_leaf}
use Rattle.msg_parts.specs.PartDocuments.{account_documents}
use Rattle.msg_deed.specs.DeedsReadBack.{DeedsReadBack}
use Rattle.msg_deed.specs.SoundDeeds.{IsSoundDeed}
use Rattle.msg_parts.specs.SoundParts.{IsSoundAccount}
use Rattle.msg_parts.proofs.Lawful.{named, text_leaf}
use Rattle.msg_parts.proofs.ReadBack.{account_back}
use Rattle.msg_mail.specs.SoundMails.{IsSoundMailDeed}
use Rattle.msg_mail.specs.MailsAsDocuments.{MailsReadBack}
use Rattle.msg_sync.specs.Listing.{forms_of, branches}
use Rattle.msg_sync.specs.SyncSteps.{is_name_of}
use Rattle.msg_sync.specs.SoundSyncs.{IsSoundObject, IsSoundKind, IsSoundIn, IsSoundSync}
use Rattle.msg_sync.specs.SyncsAsDocuments.{deed_name, deed_inner, TransactionsAreLawful, TransactionsReadBack, kind_document, plain_documents, object_document, sync_inner, SyncsReadBack}
use Rattle.msg_sync.proofs.Deeds.{deeds_are}
use Rattle.msg_sync.proofs.Forms.{wanted, branches_read, branches_passed}
use Rattle.msg_sync.proofs.Skipped.{Everywhere, wanted_skips, forms_skip, leaf_skipped, IsNoKind, kind_skipped, IsNoPlain, plain_skipped, object_skipped, IsNone}
use Rattle.msg_sync.proofs.SyncDocuments.{sync_lawful}
use Rattle.msg_sync.proofs.Syncs.{kind_again, synced_again}

-- ---- transactions

abbrev deed_item : ℕ → ℕ → List ℕ × Deed → Item
deed_item offset index deed = branch_item offset index (deed_name deed) (deed_inner deed)

no_mail : (offset index : ℕ) (trnuid : List ℕ) (deed : Deed) → IsSoundDeed deed → is_mail (deed_item offset index (trnuid, deed)) ≡ false
no_mail offset index trnuid (deeds.Transfer info) d = refl
no_mail offset index trnuid (deeds.ModifyTransfer id info) d = refl
no_mail offset index trnuid (deeds.CancelTransfer id) d = refl
no_mail offset index trnuid (deeds.Model recur info) d = refl
no_mail offset index trnuid (deeds.ModifyModel id recur info pending) d = refl
no_mail offset index trnuid (deeds.CancelModel id pending) d = refl
no_mail offset index trnuid (deeds.BankMail account text) d = absurd d
no_mail offset index trnuid (deeds.Mail text) d = absurd d

a_mail : (offset index : ℕ) (trnuid : List ℕ) (deed : Deed) → IsSoundMailDeed deed → is_mail (deed_item offset index (trnuid, deed)) ≡ true
a_mail offset index trnuid (deeds.BankMail account text) d = refl
a_mail offset index trnuid (deeds.Mail text) d = refl
a_mail offset index trnuid deed d = absurd d

pub transactions_back : DeedsReadBack → MailsReadBack → TransactionsReadBack
unfolding transaction_of
transactions_back bank mails offset index deed (inl d) = rw (no_mail offset index deed.0 deed.1 d.is_deed) (bank offset index deed.0 deed.1 d)
transactions_back bank mails offset index deed (inr d) = rw (a_mail offset index deed.0 deed.1 d.is_mail) (mails offset index deed.0 deed.1 d)

-- ---- one item among the others

-- the only item that is wanted is a leaf of this name and value
abbrev pub HasLeaf : (name value : List ℕ) → List Item → Type 0
HasLeaf name value items = (offset : ℕ) × (index : ℕ) × (wanted (is_name_of name) items ≡ leaf_item offset index name value ∷ [])

-- and here the account that a message is about
abbrev pub HasAccountItem : AcctName → List Item → Type 0
HasAccountItem account items =
    (offset : ℕ) × (index : ℕ) × (wanted (is_name_of (codes "BANKACCTFROM")) items ≡ branch_item offset index (codes "BANKACCTFROM") (account_documents account) ∷ [])

pub account_holds : (parent : Item) (account : AcctName) (offset index : ℕ) → IsSoundAccount account →
    IsOnly (codes "BANKACCTFROM") parent (branch_item offset index (codes "BANKACCTFROM") (account_documents account)) → account_in parent ≡ Ok account
unfolding account_in
account_holds parent account offset index a only =
    bind_to (one (codes "BANKACCTFROM") parent) account_of _ (one_again (codes "BANKACCTFROM") parent _ only)
    ∙ account_back offset index (codes "BANKACCTFROM") account a

-- the account before documents without one
pub account_in_prefix : (account : AcctName) (rest : Documents) → Everywhere (λ items. wanted (is_name_of (codes "BANKACCTFROM")) items ≡ []) rest →
    Everywhere (HasAccountItem account) (branch (codes "BANKACCTFROM") (account_documents account) rest)
account_in_prefix account rest none offset index =
    let item = branch_item offset index (codes "BANKACCTFROM") (account_documents account) in
    (offset, index, ap (λ (more : List Item). item ∷ more) (none _ _))

-- ---- the kind

abbrev kind_item : ℕ → ℕ → SyncKind → Item
kind_item offset index (After token) = leaf_item offset index (codes "TOKEN") token
kind_item offset index TokenOnly = leaf_item offset index (codes "TOKENONLY") (codes "Y")
kind_item offset index Refresh = leaf_item offset index (codes "REFRESH") (codes "Y")

kind_holds : (kind : SyncKind) (rest : Documents) → Everywhere (λ items. wanted (is_one_of sync_kinds) items ≡ []) rest → (offset index : ℕ) →
    wanted (is_one_of sync_kinds) (items_of offset index (kind_document kind rest)) ≡ kind_item offset index kind ∷ []
kind_holds (After token) rest none offset index = ap (λ (more : List Item). kind_item offset index (After token) ∷ more) (none _ _)
kind_holds TokenOnly rest none offset index = ap (λ (more : List Item). kind_item offset index TokenOnly ∷ more) (none _ _)
kind_holds Refresh rest none offset index = ap (λ (more : List Item). kind_item offset index Refresh ∷ more) (none _ _)

kind_is : (offset index : ℕ) (kind : SyncKind) → IsSoundKind kind → IsKind (kind_item offset index kind) kind
kind_is offset index (After token) k =
    (refl, holds_of_leaf (codes "TOKEN") token 64 (text_leaf (codes "TOKEN") 64 token (named (codes "TOKEN") refl refl) k) k.is_within)
kind_is offset index TokenOnly k =
    (refl, (value_of_leaf offset index (codes "TOKENONLY") (codes "Y") (flag_leaf (codes "TOKENONLY") true (named (codes "TOKENONLY") refl refl))).0)
kind_is offset index Refresh k =
    (refl, (value_of_leaf offset index (codes "REFRESH") (codes "Y") (flag_leaf (codes "REFRESH") true (named (codes "REFRESH") refl refl))).0)

-- ---- what follows the kind

abbrev deeds_documents : List (List ℕ × Deed) → Documents
deeds_documents deeds = branches deed_name deed_inner deeds

abbrev after_reject : ObjectName → List (List ℕ × Deed) → Documents
after_reject object deeds = plain_documents (object_family object) (object_document object (deeds_documents deeds))

-- no deed has a name that no transaction has
no_deed : (is_wanted : List ℕ → Bool) → ((family : Family) → is_wanted (request_name family) ≡ false) → (object : ObjectName) (deeds : List (List ℕ × Deed)) →
    AllByRecursion (IsSoundIn (object_family object)) deeds → Everywhere (IsNone is_wanted) (deeds_documents deeds)
no_deed is_wanted other object deeds sound offset index =
    branches_passed (IsSoundIn (object_family object)) deed_name deed_inner is_wanted (λ deed is. other (family_of deed.1)) offset index deeds sound

none_after : (is_wanted : List ℕ → Bool) → IsNoPlain is_wanted → is_wanted (codes "BANKACCTFROM") ≡ false → ((family : Family) → is_wanted (request_name family) ≡ false) →
    (object : ObjectName) (deeds : List (List ℕ × Deed)) → AllByRecursion (IsSoundIn (object_family object)) deeds → Everywhere (IsNone is_wanted) (after_reject object deeds)
none_after is_wanted plain account other object deeds sound =
    let skips = wanted_skips is_wanted [] in
    plain_skipped (IsNone is_wanted) is_wanted skips plain (object_family object) (object_document object (deeds_documents deeds))
    (object_skipped (IsNone is_wanted) is_wanted skips account object (deeds_documents deeds) (no_deed is_wanted other object deeds sound))

no_kind_name : (family : Family) → is_one_of sync_kinds (request_name family) ≡ false
no_kind_name families.Intra = refl
no_kind_name families.RecIntra = refl
no_kind_name families.BankMail = refl
no_kind_name families.Mail = refl

no_reject_name : (family : Family) → is_name_of (codes "REJECTIFMISSING") (request_name family) ≡ false
no_reject_name families.Intra = refl
no_reject_name families.RecIntra = refl
no_reject_name families.BankMail = refl
no_reject_name families.Mail = refl

no_account_name : (family : Family) → is_name_of (codes "BANKACCTFROM") (request_name family) ≡ false
no_account_name families.Intra = refl
no_account_name families.RecIntra = refl
no_account_name families.BankMail = refl
no_account_name families.Mail = refl

choice_holds : (offset index : ℕ) (ask : SyncAsk) → IsSoundSync ask →
    wanted (is_one_of sync_kinds) (items_of offset index (sync_inner ask)) ≡ kind_item offset index ask.kind ∷ []
choice_holds offset index ask s =
    let kinds : List ℕ → Bool = is_one_of sync_kinds in
    kind_holds ask.kind _
    (leaf_skipped (IsNone kinds) kinds (wanted_skips kinds []) (codes "REJECTIFMISSING") (flag_word ask.reject) (after_reject ask.object ask.deeds) refl
    (none_after kinds (record { images = refl; html = refl }) refl no_kind_name ask.object ask.deeds s.deeds))
    offset index

leaf_skips : (name value : List ℕ) (item : Item) (items : List Item) → is_name_of name item.node.name ≡ false → HasLeaf name value items → HasLeaf name value (item ∷ items)
leaf_skips name value item items other h = (h.0, h.1, rw other h.2)

pub account_skips : (account : AcctName) (item : Item) (items : List Item) → is_name_of (codes "BANKACCTFROM") item.node.name ≡ false →
    HasAccountItem account items → HasAccountItem account (item ∷ items)
account_skips account item items other h = (h.0, h.1, rw other h.2)

reject_holds : (ask : SyncAsk) → IsSoundSync ask → Everywhere (HasLeaf (codes "REJECTIFMISSING") (flag_word ask.reject)) (sync_inner ask)
reject_holds ask s =
    let name = codes "REJECTIFMISSING" in
    let value = flag_word ask.reject in
    let is_reject : List ℕ → Bool = is_name_of (codes "REJECTIFMISSING") in
    let none = none_after is_reject (record { images = refl; html = refl }) refl no_reject_name ask.object ask.deeds s.deeds in
    kind_skipped (HasLeaf name value) is_reject (leaf_skips name value) (record { token = refl; only = refl; refresh = refl }) ask.kind
    (leaf name value (after_reject ask.object ask.deeds))
    (λ offset index. (offset, index, ap (λ (more : List Item). leaf_item offset index name value ∷ more) (none _ _)))

-- ---- the object

abbrev ask_with : ObjectName → SyncKind → Bool → List (List ℕ × Deed) → SyncAsk
ask_with object kind reject deeds = record { object = object; kind = kind; reject = reject; deeds = deeds }

account_found : (family : Family) (kind : SyncKind) (reject : Bool) (account : AcctName) (deeds : List (List ℕ × Deed)) →
    Everywhere (IsNone (is_name_of (codes "BANKACCTFROM"))) (deeds_documents deeds) →
    Everywhere (HasAccountItem account)
    (kind_document kind
    (leaf (codes "REJECTIFMISSING") (flag_word reject)
    (plain_documents family (branch (codes "BANKACCTFROM") (account_documents account) (deeds_documents deeds)))))
account_found family kind reject account deeds none =
    let is_account : List ℕ → Bool = is_name_of (codes "BANKACCTFROM") in
    let from = branch (codes "BANKACCTFROM") (account_documents account) (deeds_documents deeds) in
    let skips = account_skips account in
    kind_skipped (HasAccountItem account) is_account skips (record { token = refl; only = refl; refresh = refl }) kind
    (leaf (codes "REJECTIFMISSING") (flag_word reject) (plain_documents family from))
    (leaf_skipped (HasAccountItem account) is_account skips (codes "REJECTIFMISSING") (flag_word reject) (plain_documents family from) refl
    (plain_skipped (HasAccountItem account) is_account skips (record { images = refl; html = refl }) family from (account_in_prefix account (deeds_documents deeds) none)))

object_back : (offset index : ℕ) (own : List ℕ) (object : ObjectName) (kind : SyncKind) (reject : Bool) (deeds : List (List ℕ × Deed)) →
    IsSoundObject object → AllByRecursion (IsSoundIn (object_family object)) deeds → AreLawful 5 (sync_inner (ask_with object kind reject deeds)) →
    object_in (object_family object) (branch_item offset index own (sync_inner (ask_with object kind reject deeds))) ≡ Ok object
object_back offset index own (Intra account) kind reject deeds o sound lawful =
    let inner = sync_inner (ask_with (Intra account) kind reject deeds) in
    let item = branch_item offset index own inner in
    let found = account_found families.Intra kind reject account deeds (no_deed _ no_account_name (Intra account) deeds sound) (offset + length (start_line own)) (index + 1) in
    bind_to (account_in item) _ account (account_holds item account found.0 found.1 o (named_of_branch offset index 5 own (codes "BANKACCTFROM") inner lawful ∙ found.2))
object_back offset index own (RecIntra account) kind reject deeds o sound lawful =
    let inner = sync_inner (ask_with (RecIntra account) kind reject deeds) in
    let item = branch_item offset index own inner in
    let found = account_found families.RecIntra kind reject account deeds (no_deed _ no_account_name (RecIntra account) deeds sound) (offset + length (start_line own)) (index + 1) in
    bind_to (account_in item) _ account (account_holds item account found.0 found.1 o (named_of_branch offset index 5 own (codes "BANKACCTFROM") inner lawful ∙ found.2))
object_back offset index own (BankMail account) kind reject deeds o sound lawful =
    let inner = sync_inner (ask_with (BankMail account) kind reject deeds) in
    let item = branch_item offset index own inner in
    let found = account_found families.BankMail kind reject account deeds (no_deed _ no_account_name (BankMail account) deeds sound) (offset + length (start_line own)) (index + 1) in
    bind_to (account_in item) _ account (account_holds item account found.0 found.1 o (named_of_branch offset index 5 own (codes "BANKACCTFROM") inner lawful ∙ found.2))
object_back offset index own Mail kind reject deeds o sound lawful = refl

-- ---- the deeds

no_kind : (family : Family) → IsNoKind (is_name_of (request_name family))
no_kind families.Intra = record { token = refl; only = refl; refresh = refl }
no_kind families.RecIntra = record { token = refl; only = refl; refresh = refl }
no_kind families.BankMail = record { token = refl; only = refl; refresh = refl }
no_kind families.Mail = record { token = refl; only = refl; refresh = refl }

no_plain : (family : Family) → IsNoPlain (is_name_of (request_name family))
no_plain families.Intra = record { images = refl; html = refl }
no_plain families.RecIntra = record { images = refl; html = refl }
no_plain families.BankMail = record { images = refl; html = refl }
no_plain families.Mail = record { images = refl; html = refl }

no_flag : (family : Family) → is_name_of (request_name family) (codes "REJECTIFMISSING") ≡ false
no_flag families.Intra = refl
no_flag families.RecIntra = refl
no_flag families.BankMail = refl
no_flag families.Mail = refl

no_account : (family : Family) → is_name_of (request_name family) (codes "BANKACCTFROM") ≡ false
no_account families.Intra = refl
no_account families.RecIntra = refl
no_account families.BankMail = refl
no_account families.Mail = refl

pub same_all : {A : Type 0} (xs : List A) → map (λ (x : A). x) xs ≡ xs
same_all [] = refl
same_all {A = A} (x ∷ xs) = ap (λ (more : List A). x ∷ more) (same_all xs)

deeds_back : TransactionsReadBack → (ask : SyncAsk) → IsSoundSync ask →
    Everywhere (λ items. forms_of transaction_of (is_name_of (request_name (object_family ask.object))) items ≡ Ok ask.deeds) (sync_inner ask)
deeds_back reads ask s =
    let family = object_family ask.object in
    let is_wanted : List ℕ → Bool = is_name_of (request_name family) in
    let Holds : List Item → Type 0 = λ items. forms_of transaction_of is_wanted items ≡ Ok ask.deeds in
    let skips = forms_skip transaction_of is_wanted (Ok ask.deeds) in
    let deeds = deeds_documents ask.deeds in
    kind_skipped Holds is_wanted skips (no_kind family) ask.kind _
    (leaf_skipped Holds is_wanted skips (codes "REJECTIFMISSING") (flag_word ask.reject) (after_reject ask.object ask.deeds) (no_flag family)
    (plain_skipped Holds is_wanted skips (no_plain family) family (object_document ask.object deeds)
    (object_skipped Holds is_wanted skips (no_account family) ask.object deeds (λ offset index.
    branches_read (IsSoundIn family) deed_name deed_inner transaction_of is_wanted (λ deed. deed)
    (λ deed is. rw is.1 (bytes_eq_self (request_name family)))
    (λ at first deed is. reads at first deed is.0)
    offset index ask.deeds s.deeds
    ∙ ap Ok (same_all ask.deeds)))))

-- ---- the synchronisation

pub syncs_back : TransactionsAreLawful → TransactionsReadBack → SyncsReadBack
unfolding sync_of
syncs_back lawful reads offset index ask s =
    let family = object_family ask.object in
    let name = sync_name family in
    let inner = sync_inner ask in
    let item = branch_item offset index name inner in
    let are = sync_lawful lawful 5 ask (omega arith) s in
    let at : ℕ = offset + length (start_line name) in
    let choice = kind_item at (index + 1) ask.kind in
    let reject = reject_holds ask s at (index + 1) in
    bind_to (family_synced item) _ family (synced_again item family refl)
    ∙ bind_to (one_of sync_kinds item) _ choice
    (one_of_again sync_kinds item choice (named_one_of_branch offset index 5 name sync_kinds inner are ∙ choice_holds at (index + 1) ask s))
    ∙ bind_to (kind_of choice) _ ask.kind (kind_again choice ask.kind (kind_is at (index + 1) ask.kind s.kind))
    ∙ bind_to (flag_in (codes "REJECTIFMISSING") item) _ ask.reject
    (flag_of_leaf (codes "REJECTIFMISSING") ask.reject reject.0 reject.1 item (named (codes "REJECTIFMISSING") refl refl)
    (named_of_branch offset index 5 name (codes "REJECTIFMISSING") inner are ∙ reject.2))
    ∙ bind_to (object_in family item) _ ask.object
    (object_back offset index name ask.object ask.kind ask.reject ask.deeds s.object s.deeds are)
    ∙ bind_to (deeds_of (request_name family) (children item)) _ ask.deeds
    (deeds_are (request_name family) (children item)
    ∙ ap (forms_of transaction_of (is_name_of (request_name family))) (children_of_branch offset index name inner)
    ∙ deeds_back reads ask s at (index + 1))
