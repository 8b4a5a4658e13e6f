-- What is written of transactions and of synchronisations are their documents, and those of sound ones are lawful.
use Rattle.std.proofs.Common.{◌≡◌, ℕ, ◌-◌, ◌<◌, inl, inr, true, false, List, ◌++◌, codes, refl, sym, ap, ◌∙◌, append_assoc, arith}
use Rattle.std.specs.List.{flat_map}
use Rattle.ofx_types.specs.Sheet as sheet
use Rattle.ofx_types.specs.FormWords.{flag_word}
use Rattle.ofx_types.specs.DeedText.{deed_reply_text}
use Rattle.ofx_types.specs.SyncForm.{object_family, sync_name, sync_reply_name}
use Rattle.ofx_types.specs.PrintedSync.{object_text, kind_text, plain_text, transaction_text, sync_text, sync_reply_text}
use Rattle.ofx_types.specs.declared.transfer.Family.{Family}
use Rattle.ofx_types.specs.declared.transfer.Family.TheVariants as families
use Rattle.ofx_types.specs.declared.sync.ObjectName.{ObjectName}
use Rattle.ofx_types.specs.declared.sync.ObjectName.TheVariants.{Intra, RecIntra, BankMail, Mail}
use Rattle.ofx_types.specs.declared.sync.SyncKind.{SyncKind}
use Rattle.ofx_types.specs.declared.sync.SyncKind.TheVariants.{After, TokenOnly, Refresh}
use Rattle.ofx_types.specs.declared.sync.SyncAsk.{SyncAsk}
use Rattle.ofx_types.specs.declared.sync.SyncReply.{SyncReply}
use Rattle.ofx_tree.specs.Documents.{Documents, leaf, printed, AreLawful, IsBranch}
use Rattle.ofx_tree.proofs.Leaves.{flag_leaf}
use Rattle.msg_parts.specs.DeedDocuments.{DeedsAreDocuments}
use Rattle.msg_deed.specs.DeedsReadBack.{DeedsAreLawful, DeedRepliesAreLawful}
use Rattle.msg_parts.proofs.Lawful.{named, is_branch, text_leaf, account_lawful}
use Rattle.msg_parts.proofs.Printed.{account_printed}
use Rattle.msg_mail.specs.MailsAsDocuments.{MailsAreLawful, MailRepliesAreLawful}
use Rattle.msg_sync.specs.Listing.{branches}
use Rattle.msg_sync.specs.SoundSyncs.{IsSoundObject, IsSoundKind, IsSoundIn, IsSoundSync, IsSoundReportedIn, IsSoundSyncReply}
use Rattle.msg_sync.specs.SyncsAsDocuments.{deed_name, deed_inner, answer_name, answer_inner, TransactionsAreDocuments, TransactionsAreLawful, AnswersAreDocuments, AnswersAreLawful, kind_document, plain_documents, object_document, sync_inner, sync_reply_inner, SyncsAreDocuments, SyncsAreLawful, SyncRepliesAreDocuments, SyncRepliesAreLawful}
use Rattle.msg_sync.proofs.Forms.{branches_printed, branches_lawful}

-- ---- transactions

pub transactions_printed : DeedsAreDocuments → TransactionsAreDocuments
transactions_printed written deed rest = written deed.0 deed.1 rest

pub transactions_lawful : DeedsAreLawful → MailsAreLawful → TransactionsAreLawful
transactions_lawful bank mails room deed rest some (inl d) more = bank room deed.0 deed.1 rest some d more
transactions_lawful bank mails room deed rest some (inr d) more = mails room deed.0 deed.1 rest (omega arith) d more

pub answers_lawful : DeedRepliesAreLawful → MailRepliesAreLawful → AnswersAreLawful
answers_lawful bank mails room reply rest some (inl r) more = bank room reply rest some r more
answers_lawful bank mails room reply rest some (inr r) more = mails room reply rest (omega arith) r more

-- ---- what is written

kind_printed : (kind : SyncKind) (rest : Documents) → printed (kind_document kind rest) ≡ kind_text kind ++ printed rest
unfolding kind_text
kind_printed (After token) rest = refl
kind_printed TokenOnly rest = refl
kind_printed Refresh rest = refl

no_images : List ℕ
no_images = sheet.element (codes "INCIMAGES") (codes "N")

no_html : List ℕ
no_html = sheet.element (codes "USEHTML") (codes "N")

plain_printed : (family : Family) (rest : Documents) → printed (plain_documents family rest) ≡ plain_text family ++ printed rest
unfolding plain_text no_images no_html
plain_printed families.Intra rest = refl
plain_printed families.RecIntra rest = refl
plain_printed families.BankMail rest = sym (append_assoc no_images no_html (printed rest))
plain_printed families.Mail rest = sym (append_assoc no_images no_html (printed rest))

object_printed : (object : ObjectName) (rest : Documents) → printed (object_document object rest) ≡ object_text object ++ printed rest
unfolding object_text
object_printed (Intra account) rest = ap (λ (text : List ℕ). text ++ printed rest) (account_printed account)
object_printed (RecIntra account) rest = ap (λ (text : List ℕ). text ++ printed rest) (account_printed account)
object_printed (BankMail account) rest = ap (λ (text : List ℕ). text ++ printed rest) (account_printed account)
object_printed Mail rest = refl

pub syncs_printed : TransactionsAreDocuments → SyncsAreDocuments
unfolding sync_text
syncs_printed transactions ask rest =
    let family = object_family ask.object in
    let deeds = branches deed_name deed_inner ask.deeds in
    let name = sync_name family in
    let reject = sheet.element (codes "REJECTIFMISSING") (flag_word ask.reject) in
    let object = object_document ask.object deeds in
    let plain = plain_documents family object in
    let inner : printed (sync_inner ask)
    ≡ kind_text ask.kind ++ (reject ++ (plain_text family ++ (object_text ask.object ++ flat_map transaction_text ask.deeds))) =
    kind_printed ask.kind (leaf (codes "REJECTIFMISSING") (flag_word ask.reject) plain)
    ∙ ap (λ (text : List ℕ). kind_text ask.kind ++ (reject ++ text))
    (plain_printed family object
    ∙ ap (λ (text : List ℕ). plain_text family ++ text)
    (object_printed ask.object deeds
    ∙ ap (λ (text : List ℕ). object_text ask.object ++ text) (branches_printed deed_name deed_inner transaction_text transactions ask.deeds))) in
    ap (λ (text : List ℕ). sheet.aggregate name text ++ printed rest) inner

pub sync_replies_printed : AnswersAreDocuments → SyncRepliesAreDocuments
unfolding sync_reply_text
sync_replies_printed answers reply rest =
    let replies = branches answer_name answer_inner reply.replies in
    let name = sync_reply_name (object_family reply.object) in
    let token = sheet.element (codes "TOKEN") reply.token in
    let lost = sheet.element (codes "LOSTSYNC") (flag_word reply.lost) in
    let inner : printed (sync_reply_inner reply) ≡ token ++ (lost ++ (object_text reply.object ++ flat_map deed_reply_text reply.replies)) =
    ap (λ (text : List ℕ). token ++ (lost ++ text))
    (object_printed reply.object replies
    ∙ ap (λ (text : List ℕ). object_text reply.object ++ text) (branches_printed answer_name answer_inner deed_reply_text answers reply.replies)) in
    ap (λ (text : List ℕ). sheet.aggregate name text ++ printed rest) inner

-- ---- they are lawful

kind_lawful : (room : ℕ) (kind : SyncKind) (rest : Documents) → IsSoundKind kind → AreLawful room rest → AreLawful room (kind_document kind rest)
kind_lawful room (After token) rest k more = (text_leaf (codes "TOKEN") 64 token (named (codes "TOKEN") refl refl) k, more)
kind_lawful room TokenOnly rest k more = (flag_leaf (codes "TOKENONLY") true (named (codes "TOKENONLY") refl refl), more)
kind_lawful room Refresh rest k more = (flag_leaf (codes "REFRESH") true (named (codes "REFRESH") refl refl), more)

plain_lawful : (room : ℕ) (family : Family) (rest : Documents) → AreLawful room rest → AreLawful room (plain_documents family rest)
plain_lawful room families.Intra rest more = more
plain_lawful room families.RecIntra rest more = more
plain_lawful room families.BankMail rest more =
    (flag_leaf (codes "INCIMAGES") false (named (codes "INCIMAGES") refl refl), (flag_leaf (codes "USEHTML") false (named (codes "USEHTML") refl refl), more))
plain_lawful room families.Mail rest more =
    (flag_leaf (codes "INCIMAGES") false (named (codes "INCIMAGES") refl refl), (flag_leaf (codes "USEHTML") false (named (codes "USEHTML") refl refl), more))

object_lawful : (room : ℕ) (object : ObjectName) (rest : Documents) → 0 < room → IsSoundObject object → AreLawful room rest →
    AreLawful room (object_document object rest)
object_lawful room (Intra account) rest some o more = (is_branch (codes "BANKACCTFROM") refl refl refl, some, account_lawful (room - 1) account o, more)
object_lawful room (RecIntra account) rest some o more = (is_branch (codes "BANKACCTFROM") refl refl refl, some, account_lawful (room - 1) account o, more)
object_lawful room (BankMail account) rest some o more = (is_branch (codes "BANKACCTFROM") refl refl refl, some, account_lawful (room - 1) account o, more)
object_lawful room Mail rest some o more = more

pub sync_lawful : TransactionsAreLawful → (room : ℕ) (ask : SyncAsk) → 4 < room → IsSoundSync ask → AreLawful room (sync_inner ask)
sync_lawful transactions room ask some s =
    let family = object_family ask.object in
    let deeds = branches_lawful room (IsSoundIn family) deed_name deed_inner (λ deed rest sound more. transactions room deed rest some sound.0 more) ask.deeds s.deeds in
    let object = object_document ask.object (branches deed_name deed_inner ask.deeds) in
    let plain = plain_documents family object in
    kind_lawful room ask.kind (leaf (codes "REJECTIFMISSING") (flag_word ask.reject) plain) s.kind (
      flag_leaf (codes "REJECTIFMISSING") ask.reject (named (codes "REJECTIFMISSING") refl refl),
      plain_lawful room family object (object_lawful room ask.object (branches deed_name deed_inner ask.deeds) (omega arith) s.object deeds),
    )

sync_branch : (family : Family) → IsBranch (sync_name family)
sync_branch families.Intra = is_branch (codes "INTRASYNCRQ") refl refl refl
sync_branch families.RecIntra = is_branch (codes "RECINTRASYNCRQ") refl refl refl
sync_branch families.BankMail = is_branch (codes "BANKMAILSYNCRQ") refl refl refl
sync_branch families.Mail = is_branch (codes "MAILSYNCRQ") refl refl refl

pub syncs_lawful : TransactionsAreLawful → SyncsAreLawful
syncs_lawful transactions room ask rest some s more =
    (sync_branch (object_family ask.object), omega arith, sync_lawful transactions (room - 1) ask (omega arith) s, more)

pub sync_reply_lawful : AnswersAreLawful → (room : ℕ) (reply : SyncReply) → 4 < room → IsSoundSyncReply reply → AreLawful room (sync_reply_inner reply)
sync_reply_lawful answers room reply some s =
    let family = object_family reply.object in
    let replies = branches_lawful room (IsSoundReportedIn family) answer_name answer_inner (λ answer rest sound more. answers room answer rest some sound.0 more) reply.replies s.replies in (
      text_leaf (codes "TOKEN") 64 reply.token (named (codes "TOKEN") refl refl) s.token,
      (flag_leaf (codes "LOSTSYNC") reply.lost (named (codes "LOSTSYNC") refl refl), object_lawful room reply.object (branches answer_name answer_inner reply.replies) (omega arith) s.object replies),
    )

sync_reply_branch : (family : Family) → IsBranch (sync_reply_name family)
sync_reply_branch families.Intra = is_branch (codes "INTRASYNCRS") refl refl refl
sync_reply_branch families.RecIntra = is_branch (codes "RECINTRASYNCRS") refl refl refl
sync_reply_branch families.BankMail = is_branch (codes "BANKMAILSYNCRS") refl refl refl
sync_reply_branch families.Mail = is_branch (codes "MAILSYNCRS") refl refl refl

pub sync_replies_lawful : AnswersAreLawful → SyncRepliesAreLawful
sync_replies_lawful answers room reply rest some s more =
    (sync_reply_branch (object_family reply.object), omega arith, sync_reply_lawful answers (room - 1) reply (omega arith) s, more)
