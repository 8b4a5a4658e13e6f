-- Synchronisations and the replies to them as documents of a sheet, and that they read back as they were written.
use Rattle.std.specs.Prelude.{◌≡◌, ℕ, ◌<◌, List, ◌++◌, codes, Ok}
use Rattle.ofx_types.specs.FormWords.{flag_word}
use Rattle.ofx_types.specs.DeedForm.{family_of, request_name, reply_name}
use Rattle.ofx_types.specs.DeedText.{deed_reply_text}
use Rattle.ofx_types.specs.SyncForm.{object_family, sync_name, sync_reply_name}
use Rattle.ofx_types.specs.SyncReading.{transaction_of, transaction_reply_of, sync_of, sync_reply_of}
use Rattle.ofx_types.specs.PrintedSync.{transaction_text, sync_text, sync_reply_text}
use Rattle.ofx_types.specs.Wire.{wire, wire_sync}
use Rattle.ofx_types.specs.declared.transfer.Deed.{Deed}
use Rattle.ofx_types.specs.declared.transfer.DeedReply.{DeedReply}
use Rattle.ofx_types.specs.declared.transfer.Family.{Family}
use Rattle.ofx_types.specs.declared.transfer.Family.TheVariants as families
use Rattle.ofx_types.specs.declared.sync.ObjectName.{ObjectName}
use Rattle.ofx_types.specs.declared.sync.ObjectName.TheVariants.{Intra, RecIntra, BankMail, Mail}
use Rattle.ofx_types.specs.declared.sync.SyncKind.{SyncKind}
use Rattle.ofx_types.specs.declared.sync.SyncKind.TheVariants.{After, TokenOnly, Refresh}
use Rattle.ofx_types.specs.declared.sync.SyncAsk.{SyncAsk}
use Rattle.ofx_types.specs.declared.sync.SyncReply.{SyncReply}
use Rattle.ofx_tree.specs.Documents.{Documents, leaf, branch, printed, AreLawful, branch_item}
use Rattle.msg_parts.specs.PartDocuments.{account_documents}
use Rattle.msg_parts.specs.DeedDocuments.{deed_documents, deed_reply_documents}
use Rattle.msg_sync.specs.Listing.{branches}
use Rattle.msg_sync.specs.SoundSyncs.{IsSoundTransaction, IsSoundAnswer, IsSoundSync, IsSoundSyncReply}

-- ---- transactions

-- the name of a deed's transaction, and what is in it
abbrev pub deed_name : List ℕ × Deed → List ℕ
deed_name deed = request_name (family_of deed.1)

abbrev pub deed_inner : List ℕ × Deed → Documents
deed_inner deed = deed_documents deed.0 deed.1

-- the same of an answer
abbrev pub answer_name : DeedReply → List ℕ
answer_name reply = reply_name reply.family

abbrev pub answer_inner : DeedReply → Documents
answer_inner reply = deed_reply_documents reply.trnuid reply.code reply.change

-- What is written of a deed are its documents.
abbrev pub TransactionsAreDocuments : Type 0
TransactionsAreDocuments =
    (deed : List ℕ × Deed) (rest : Documents)
    → printed (branch (deed_name deed) (deed_inner deed) rest) ≡ transaction_text deed ++ printed rest

-- Those of a sound deed are lawful.
abbrev pub TransactionsAreLawful : Type 0
TransactionsAreLawful =
    (room : ℕ) (deed : List ℕ × Deed) (rest : Documents)
    → 4 < room → IsSoundTransaction deed → AreLawful room rest → AreLawful room (branch (deed_name deed) (deed_inner deed) rest)

-- Wherever they are, the uid and the deed are read from them.
abbrev pub TransactionsReadBack : Type 0
TransactionsReadBack =
    (offset index : ℕ) (deed : List ℕ × Deed) → IsSoundTransaction deed
    → transaction_of (branch_item offset index (deed_name deed) (deed_inner deed)) ≡ Ok deed

-- The same of answers, of which a changed transfer is read with model 0.
abbrev pub AnswersAreDocuments : Type 0
AnswersAreDocuments =
    (reply : DeedReply) (rest : Documents)
    → printed (branch (answer_name reply) (answer_inner reply) rest) ≡ deed_reply_text reply ++ printed rest

abbrev pub AnswersAreLawful : Type 0
AnswersAreLawful =
    (room : ℕ) (reply : DeedReply) (rest : Documents)
    → 4 < room → IsSoundAnswer reply → AreLawful room rest → AreLawful room (branch (answer_name reply) (answer_inner reply) rest)

abbrev pub AnswersReadBack : Type 0
AnswersReadBack =
    (offset index : ℕ) (reply : DeedReply) → IsSoundAnswer reply
    → transaction_reply_of (branch_item offset index (answer_name reply) (answer_inner reply)) ≡ Ok (wire reply)

-- ---- synchronisations

abbrev pub kind_document : SyncKind → Documents → Documents
kind_document (After token) rest = leaf (codes "TOKEN") token rest
kind_document TokenOnly rest = leaf (codes "TOKENONLY") (codes "Y") rest
kind_document Refresh rest = leaf (codes "REFRESH") (codes "Y") rest

-- Mail is asked for without images and without HTML.
abbrev pub plain_documents : Family → Documents → Documents
plain_documents families.Intra rest = rest
plain_documents families.RecIntra rest = rest
plain_documents families.BankMail rest = leaf (codes "INCIMAGES") (codes "N") (leaf (codes "USEHTML") (codes "N") rest)
plain_documents families.Mail rest = leaf (codes "INCIMAGES") (codes "N") (leaf (codes "USEHTML") (codes "N") rest)

-- The account of an object, where it has one.
abbrev pub object_document : ObjectName → Documents → Documents
object_document (Intra account) rest = branch (codes "BANKACCTFROM") (account_documents account) rest
object_document (RecIntra account) rest = branch (codes "BANKACCTFROM") (account_documents account) rest
object_document (BankMail account) rest = branch (codes "BANKACCTFROM") (account_documents account) rest
object_document Mail rest = rest

-- what is in a synchronisation
abbrev pub sync_inner : SyncAsk → Documents
sync_inner ask =
    kind_document ask.kind
    (leaf (codes "REJECTIFMISSING") (flag_word ask.reject)
    (plain_documents (object_family ask.object) (object_document ask.object (branches deed_name deed_inner ask.deeds))))

-- what is in the reply to one
abbrev pub sync_reply_inner : SyncReply → Documents
sync_reply_inner reply =
    leaf (codes "TOKEN") reply.token
    (leaf (codes "LOSTSYNC") (flag_word reply.lost)
    (object_document reply.object (branches answer_name answer_inner reply.replies)))

-- ---- they read back

-- What is written of a synchronisation are its documents.
abbrev pub SyncsAreDocuments : Type 0
SyncsAreDocuments =
    (ask : SyncAsk) (rest : Documents)
    → printed (branch (sync_name (object_family ask.object)) (sync_inner ask) rest) ≡ sync_text ask ++ printed rest

-- Those of a sound one are lawful.
abbrev pub SyncsAreLawful : Type 0
SyncsAreLawful =
    (room : ℕ) (ask : SyncAsk) (rest : Documents)
    → 5 < room → IsSoundSync ask → AreLawful room rest
    → AreLawful room (branch (sync_name (object_family ask.object)) (sync_inner ask) rest)

-- Wherever they are, the ask is read from them.
abbrev pub SyncsReadBack : Type 0
SyncsReadBack =
    (offset index : ℕ) (ask : SyncAsk) → IsSoundSync ask
    → sync_of (branch_item offset index (sync_name (object_family ask.object)) (sync_inner ask)) ≡ Ok ask

-- The same of replies, in which each changed transfer is read with model 0.
abbrev pub SyncRepliesAreDocuments : Type 0
SyncRepliesAreDocuments =
    (reply : SyncReply) (rest : Documents)
    → printed (branch (sync_reply_name (object_family reply.object)) (sync_reply_inner reply) rest)
    ≡ sync_reply_text reply ++ printed rest

abbrev pub SyncRepliesAreLawful : Type 0
SyncRepliesAreLawful =
    (room : ℕ) (reply : SyncReply) (rest : Documents)
    → 5 < room → IsSoundSyncReply reply → AreLawful room rest
    → AreLawful room (branch (sync_reply_name (object_family reply.object)) (sync_reply_inner reply) rest)

abbrev pub SyncRepliesReadBack : Type 0
SyncRepliesReadBack =
    (offset index : ℕ) (reply : SyncReply) → IsSoundSyncReply reply
    → sync_reply_of (branch_item offset index (sync_reply_name (object_family reply.object)) (sync_reply_inner reply))
    ≡ Ok (wire_sync reply)
