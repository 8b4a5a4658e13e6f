-- The TRNUID and the status of a deed's transaction stand in what is printed of it.
use Rattle.std.proofs.Common.{◌≡◌, ◌≢◌, ℕ, filter, List, [], ◌∷◌, codes, refl, ap, ◌∙◌, ◌≤◌, false, Option, None, Some}
use Rattle.std.specs.Str.{bytes_eq}
use Rattle.ofx_types.specs.FormWords.{has_name, named, IsOnly, IsTextIn}
use Rattle.ofx_types.specs.Nodes.{Item}
use Rattle.ofx_types.specs.RequestForm.{IsTrnUidOf}
use Rattle.ofx_types.specs.DeedForm.{family_of, request_name, reply_name}
use Rattle.ofx_types.specs.ReplyGrammar.{IsStatus}
use Rattle.ofx_types.specs.ReplyReading.{code_of, status_of}
use Rattle.ofx_types.specs.declared.transfer.Deed.{Deed}
use Rattle.ofx_types.specs.declared.transfer.Deed.TheVariants.{Transfer, ModifyTransfer, CancelTransfer, Model, ModifyModel, CancelModel}
use Rattle.ofx_types.specs.declared.account.AcctName.{AcctName}
use Rattle.ofx_types.specs.declared.transfer.Change.{Change}
use Rattle.ofx_types.specs.declared.transfer.Change.TheVariants.{NewTransfer, SetTransfer, DropTransfer, NewModel, SetModel, DropModel, NewMail}
use Rattle.ofx_types.specs.declared.transfer.Family.{Family}
use Rattle.ofx_types.specs.declared.transfer.DeedReply.{DeedReply}
use Rattle.ofx_types.specs.declared.transfer.Deed.TheVariants as deeds
use Rattle.ofx_tree.specs.PrintedForm.{IsElementName}
use Rattle.ofx_tree.specs.Documents.{Documents, empty, branch, AreLawful, leaf_item, branch_item, items_of}
use Rattle.ofx_tree.proofs.FormLaws.{text_in_found, bind_to, one_again}
use Rattle.ofx_tree.proofs.DocumentItems.{named_of_branch}
use Rattle.ofx_tree.proofs.Leaves.{text_of_leaf}
use Rattle.msg_parts.specs.DeedDocuments.{asked_name, request_documents, deed_documents, change_document, deed_reply_documents}
use Rattle.msg_parts.specs.SoundParts.{IsTextWithin}
use Rattle.msg_parts.specs.MailDocuments.{mail_reply_name}
use Rattle.msg_parts.proofs.Statuses.{status_found}
use Rattle.msg_parts.proofs.ReadBack.{statuses_back}
use Rattle.msg_parts.proofs.Lawful as lawful

-- What is printed of a text is read as that text.
pub is_text_of_leaf : (name : List ℕ) (most : ℕ) (text : List ℕ) (offset index : ℕ) (parent : Item) → IsElementName name → IsTextWithin most text →
    IsOnly name parent (leaf_item offset index name text) → IsTextIn name most parent text
is_text_of_leaf name most text offset index parent named t only =
    text_in_found name most parent text (text_of_leaf name text most offset index parent (lawful.text_leaf name most text named t) t.is_within only)

-- The only one of its name before documents that don't have the name.
pub only_in_prefix : (name : List ℕ) (parent child : Item) (rest : Documents) (offset index : ℕ) →
    filter (λ item. has_name name item) (items_of offset index rest) ≡ [] →
    named name parent ≡ child ∷ filter (λ item. has_name name item) (items_of offset index rest) → IsOnly name parent child
only_in_prefix name parent child rest offset index none found = found ∙ ap (λ (more : List Item). child ∷ more) none

-- ---- the transaction

abbrev pub deed_item : ℕ → ℕ → List ℕ → Deed → Item
deed_item offset index trnuid deed = branch_item offset index (request_name (family_of deed)) (deed_documents trnuid deed)

-- no request has the name of the uid
abbrev request_document : Deed → Documents
request_document deed = branch (asked_name deed) (request_documents deed) empty

no_uid : (deed : Deed) (offset index : ℕ) → filter (λ item. has_name (codes "TRNUID") item) (items_of offset index (request_document deed)) ≡ []
no_uid (Transfer info) offset index = refl
no_uid (ModifyTransfer id info) offset index = refl
no_uid (CancelTransfer id) offset index = refl
no_uid (Model recur info) offset index = refl
no_uid (ModifyModel id recur info pending) offset index = refl
no_uid (CancelModel id pending) offset index = refl
no_uid (deeds.BankMail account mail) offset index = refl
no_uid (deeds.Mail mail) offset index = refl

-- So the uid of a deed is in its transaction.
pub own_trnuid_holds : (offset index room : ℕ) (trnuid : List ℕ) (deed : Deed) → IsTextWithin 36 trnuid → trnuid ≢ codes "0" → AreLawful room (deed_documents trnuid deed) →
    IsTrnUidOf (deed_item offset index trnuid deed) trnuid
own_trnuid_holds offset index room trnuid deed t own sound =
    let item = deed_item offset index trnuid deed in
    let only = only_in_prefix (codes "TRNUID") item _ (request_document deed) _ _ (no_uid deed _ _) (named_of_branch offset index room (request_name (family_of deed)) (codes "TRNUID") (deed_documents trnuid deed) sound) in
    record { text = is_text_of_leaf (codes "TRNUID") 36 trnuid _ _ item (lawful.named (codes "TRNUID") refl refl) t only; is_own = own }

-- ---- the transaction

abbrev pub reply_item : ℕ → ℕ → List ℕ → ℕ → Family → Option Change → Item
reply_item offset index trnuid code family change = branch_item offset index (reply_name family) (deed_reply_documents trnuid code change)

other_mail_names : (name : List ℕ) → bytes_eq (codes "MAILRS") name ≡ false → bytes_eq (codes "BANKMAILRS") name ≡ false → (about : Option AcctName) (inner : Documents) (offset index : ℕ) →
    filter (λ item. has_name name item) (items_of offset index (branch (mail_reply_name about) inner empty)) ≡ []
other_mail_names name mail bank None inner offset index = rw mail refl
other_mail_names name mail bank (Some account) inner offset index = rw bank refl

-- no change has the name of the uid or of the status
other_names : (change : Option Change) (offset index : ℕ) →
    (filter (λ item. has_name (codes "TRNUID") item) (items_of offset index (change_document change)) ≡ [])
    × (filter (λ item. has_name (codes "STATUS") item) (items_of offset index (change_document change)) ≡ [])
other_names None offset index = (refl, refl)
other_names (Some (NewTransfer row)) offset index = (refl, refl)
other_names (Some (SetTransfer row)) offset index = (refl, refl)
other_names (Some (DropTransfer id)) offset index = (refl, refl)
other_names (Some (NewModel row)) offset index = (refl, refl)
other_names (Some (SetModel row pending)) offset index = (refl, refl)
other_names (Some (DropModel id pending)) offset index = (refl, refl)
other_names (Some (NewMail row)) offset index = (other_mail_names (codes "TRNUID") refl refl row.about _ offset index, other_mail_names (codes "STATUS") refl refl row.about _ offset index)

-- So the uid and the status of an answer stand in its transaction.
pub trnuid_holds : (offset index room : ℕ) (reply : DeedReply) → IsTextWithin 36 reply.trnuid →
    AreLawful room (deed_reply_documents reply.trnuid reply.code reply.change) →
    IsTextIn (codes "TRNUID") 36 (reply_item offset index reply.trnuid reply.code reply.family reply.change) reply.trnuid
trnuid_holds offset index room reply t sound =
    let item = reply_item offset index reply.trnuid reply.code reply.family reply.change in
    let only = only_in_prefix (codes "TRNUID") item _ (change_document reply.change) _ _ (other_names reply.change _ _).0 (named_of_branch offset index room (reply_name reply.family) (codes "TRNUID") (deed_reply_documents reply.trnuid reply.code reply.change) sound) in
    is_text_of_leaf (codes "TRNUID") 36 reply.trnuid _ _ item (lawful.named (codes "TRNUID") refl refl) t only

pub status_holds : (offset index room : ℕ) (reply : DeedReply) → reply.code ≤ 65535 →
    AreLawful room (deed_reply_documents reply.trnuid reply.code reply.change) →
    IsStatus (reply_item offset index reply.trnuid reply.code reply.family reply.change) reply.code
unfolding status_of
status_holds offset index room reply fits sound =
    let item = reply_item offset index reply.trnuid reply.code reply.family reply.change in
    let only = only_in_prefix (codes "STATUS") item _ (change_document reply.change) _ _ (other_names reply.change _ _).1 (named_of_branch offset index room (reply_name reply.family) (codes "STATUS") (deed_reply_documents reply.trnuid reply.code reply.change) sound) in
    status_found item reply.code (bind_to _ code_of _ (one_again (codes "STATUS") item _ only) ∙ statuses_back _ _ reply.code fits)
