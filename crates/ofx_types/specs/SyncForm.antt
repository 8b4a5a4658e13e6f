-- The forms of synchronisation: what a client asks of an object's history, and what it gets (OFX 1.6, "Data
-- Synchronization").
use Rattle.std.specs.Prelude.{◌≡◌, ◌⊎◌, ℕ, Bool, true, false, List, [], ◌∷◌, filter, codes}
use Rattle.std.specs.List.{AllZip}
use Rattle.ofx_types.specs.ValueForm.{value_of, Represents}
use Rattle.ofx_types.specs.Nodes.{Item, children}
use Rattle.ofx_types.specs.FormWords.{has_name, IsOnlyOf, IsTextIn, IsFlagIn, IsMaybeFlagIn}
use Rattle.ofx_types.specs.DeedForm.{request_name, reply_name, IsDeed, IsDeedReply}
use Rattle.ofx_types.specs.MailForm.{HasAccount, IsMailDeed, IsMailReply}
use Rattle.ofx_types.specs.declared.transfer.Deed.{Deed}
use Rattle.ofx_types.specs.declared.transfer.DeedReply.{DeedReply}
use Rattle.ofx_types.specs.declared.transfer.Family.{Family}
use Rattle.ofx_types.specs.declared.transfer.Family.TheVariants as families
use Rattle.ofx_types.specs.declared.sync.ObjectName.{ObjectName}
use Rattle.ofx_types.specs.declared.sync.ObjectName.TheVariants.{Intra, RecIntra, BankMail, Mail}
use Rattle.ofx_types.specs.declared.sync.SyncKind.{SyncKind}
use Rattle.ofx_types.specs.declared.sync.SyncKind.TheVariants.{After, TokenOnly, Refresh}
use Rattle.ofx_types.specs.declared.sync.SyncAsk.{SyncAsk}
use Rattle.ofx_types.specs.declared.sync.SyncReply.{SyncReply}

-- ---- transactions of any family

-- INTRATRNRQ, RECINTRATRNRQ, BANKMAILTRNRQ and MAILTRNRQ
abbrev pub IsTransaction : Item → List ℕ × Deed → Type 0
IsTransaction transaction deed = IsDeed transaction deed.0 deed.1 ⊎ IsMailDeed transaction deed.0 deed.1

-- INTRATRNRS, RECINTRATRNRS, BANKMAILTRNRS and MAILTRNRS
abbrev pub IsTransactionReply : Item → DeedReply → Type 0
IsTransactionReply transaction reply = IsDeedReply transaction reply ⊎ IsMailReply transaction reply

-- ---- objects

-- what is synchronised
abbrev pub object_family : ObjectName → Family
object_family (Intra account) = families.Intra
object_family (RecIntra account) = families.RecIntra
object_family (BankMail account) = families.BankMail
object_family Mail = families.Mail

-- Mail about nothing in particular has a message set of its own.
abbrev pub is_mail_family : Family → Bool
is_mail_family families.Intra = false
is_mail_family families.RecIntra = false
is_mail_family families.BankMail = false
is_mail_family families.Mail = true

-- BANKACCTFROM is in all but the user's other mail.
abbrev pub HasObject : Item → ObjectName → Type 0
HasObject sync (Intra account) = HasAccount sync account
HasObject sync (RecIntra account) = HasAccount sync account
HasObject sync (BankMail account) = HasAccount sync account
HasObject sync Mail = Unit {0}

-- ---- requests

abbrev pub sync_name : Family → List ℕ
sync_name families.Intra = codes "INTRASYNCRQ"
sync_name families.RecIntra = codes "RECINTRASYNCRQ"
sync_name families.BankMail = codes "BANKMAILSYNCRQ"
sync_name families.Mail = codes "MAILSYNCRQ"

abbrev pub sync_kinds : List (List ℕ)
sync_kinds = codes "TOKEN" ∷ codes "TOKENONLY" ∷ codes "REFRESH" ∷ []

-- TOKEN, TOKENONLY and REFRESH. The last two have no value but `Y`.
abbrev pub IsKind : Item → SyncKind → Type 0
IsKind choice (After token) = (choice.node.name ≡ codes "TOKEN") × Represents 64 choice.node.text token
IsKind choice TokenOnly = (choice.node.name ≡ codes "TOKENONLY") × (value_of choice.node.text ≡ codes "Y")
IsKind choice Refresh = (choice.node.name ≡ codes "REFRESH") × (value_of choice.node.text ≡ codes "Y")

-- INTRASYNCRQ, RECINTRASYNCRQ, BANKMAILSYNCRQ and MAILSYNCRQ: just one of the three kinds, whether deeds are refused to a
-- client that missed something, the account, and the deeds of the family in the order of the file.
pub record IsSync (sync : Item) (ask : SyncAsk) : Type 0 where
  pub is_named : sync.node.name ≡ sync_name (object_family ask.object)
  pub choice : Item
  pub has_choice : IsOnlyOf sync_kinds sync choice
  pub is_kind : IsKind choice ask.kind
  pub reject : IsFlagIn (codes "REJECTIFMISSING") sync ask.reject
  pub object : HasObject sync ask.object
  pub deeds : AllZip IsTransaction (filter (has_name (request_name (object_family ask.object))) (children sync)) ask.deeds

-- ---- replies

abbrev pub sync_reply_name : Family → List ℕ
sync_reply_name families.Intra = codes "INTRASYNCRS"
sync_reply_name families.RecIntra = codes "RECINTRASYNCRS"
sync_reply_name families.BankMail = codes "BANKMAILSYNCRS"
sync_reply_name families.Mail = codes "MAILSYNCRS"

-- INTRASYNCRS, RECINTRASYNCRS, BANKMAILSYNCRS and MAILSYNCRS. Where LOSTSYNC is missing it is `N`.
pub record IsSyncReply (sync : Item) (reply : SyncReply) : Type 0 where
  pub is_named : sync.node.name ≡ sync_reply_name (object_family reply.object)
  pub token : IsTextIn (codes "TOKEN") 64 sync reply.token
  pub lost : IsMaybeFlagIn (codes "LOSTSYNC") sync reply.lost
  pub object : HasObject sync reply.object
  pub replies : AllZip IsTransactionReply (filter (has_name (reply_name (object_family reply.object))) (children sync)) reply.replies
