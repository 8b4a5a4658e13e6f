-- How the forms of synchronisation are read: the named children of each in order, and the first fault.
use Rattle.std.specs.Prelude.{ℕ, Bool, ◌||◌, List, [], ◌∷◌, codes, Result, Ok, Err, if◌then◌else◌}
use Rattle.std.specs.Str.{bytes_eq}
use Rattle.ofx_types.specs.ValueForm.{value_of}
use Rattle.ofx_types.specs.Nodes.{TagNode, Item, children}
use Rattle.ofx_types.specs.FormWords.{has_name, ◌>>=◌, one_of, text_at, text_in, flag_in, maybe_flag_in}
use Rattle.ofx_types.specs.DeedForm.{request_name, reply_name}
use Rattle.ofx_types.specs.DeedReading.{deed_of, deed_reply_of}
use Rattle.ofx_types.specs.MailReading.{account_in, mail_deed_of, mail_reply_of}
use Rattle.ofx_types.specs.SyncForm.{sync_kinds}
use Rattle.ofx_types.specs.declared.fault.TreeFault.{TreeFault}
use Rattle.ofx_types.specs.declared.fault.TreeFault.TheVariants.{Value}
use Rattle.ofx_types.specs.declared.transfer.Deed.{Deed}
use Rattle.ofx_types.specs.declared.transfer.DeedReply.{DeedReply}
use Rattle.ofx_types.specs.declared.transfer.Family.{Family}
use Rattle.ofx_types.specs.declared.transfer.Family.TheVariants as families
use Rattle.ofx_types.specs.declared.sync.ObjectName.{ObjectName}
use Rattle.ofx_types.specs.declared.sync.ObjectName.TheVariants.{Intra, RecIntra, BankMail, Mail}
use Rattle.ofx_types.specs.declared.sync.SyncKind.{SyncKind}
use Rattle.ofx_types.specs.declared.sync.SyncKind.TheVariants.{After, TokenOnly, Refresh}
use Rattle.ofx_types.specs.declared.sync.SyncAsk.{SyncAsk}
use Rattle.ofx_types.specs.declared.sync.SyncReply.{SyncReply}

-- ---- transactions of any family

abbrev pub is_mail : Item → Bool
is_mail transaction = has_name (codes "BANKMAILTRNRQ") transaction || has_name (codes "MAILTRNRQ") transaction

unfoldable pub transaction_of : Item → Result (List ℕ × Deed) TreeFault
transaction_of transaction = if is_mail transaction then mail_deed_of transaction else deed_of transaction

abbrev pub is_mail_reply : Item → Bool
is_mail_reply transaction = has_name (codes "BANKMAILTRNRS") transaction || has_name (codes "MAILTRNRS") transaction

unfoldable pub transaction_reply_of : Item → Result DeedReply TreeFault
transaction_reply_of transaction =
    if is_mail_reply transaction then mail_reply_of transaction else deed_reply_of transaction

-- ---- objects

abbrev pub object_in : Family → Item → Result ObjectName TreeFault
object_in families.Intra sync = account_in sync >>= λ account. Ok (Intra account)
object_in families.RecIntra sync = account_in sync >>= λ account. Ok (RecIntra account)
object_in families.BankMail sync = account_in sync >>= λ account. Ok (BankMail account)
object_in families.Mail sync = Ok Mail

-- ---- requests

-- The name of a synchronisation tells its family. Any other name is none: the fault is at its own offset.
abbrev pub family_synced : Item → Result Family TreeFault
family_synced sync =
    if has_name (codes "INTRASYNCRQ") sync then Ok families.Intra
    else (if has_name (codes "RECINTRASYNCRQ") sync then Ok families.RecIntra
    else (if has_name (codes "BANKMAILSYNCRQ") sync then Ok families.BankMail
    else (if has_name (codes "MAILSYNCRQ") sync then Ok families.Mail else Err (Value sync.node.offset))))

-- TOKENONLY and REFRESH with `N` have no form.
abbrev pub only_yes : SyncKind → TagNode → Result SyncKind TreeFault
only_yes kind node = if bytes_eq (value_of node.text) (codes "Y") then Ok kind else Err (Value node.offset)

unfoldable pub kind_of : Item → Result SyncKind TreeFault
kind_of choice =
    if has_name (codes "TOKEN") choice then (text_at 64 choice.node >>= λ token. Ok (After token))
    else (if has_name (codes "TOKENONLY") choice then only_yes TokenOnly choice.node else only_yes Refresh choice.node)

abbrev pub deed_onto : List ℕ × Deed → List (List ℕ × Deed) → Result (List (List ℕ × Deed)) TreeFault
deed_onto deed deeds = Ok (deed ∷ deeds)

-- the deeds of this name among the children, in the order of the file
unfoldable pub deeds_of : List ℕ → List Item → Result (List (List ℕ × Deed)) TreeFault
deeds_of name [] = Ok []
deeds_of name (child ∷ more) =
    if has_name name child then (transaction_of child >>= λ deed. deeds_of name more >>= deed_onto deed)
    else deeds_of name more

unfoldable pub sync_of : Item → Result SyncAsk TreeFault
sync_of sync = do
  family ← family_synced sync
  choice ← one_of sync_kinds sync
  kind ← kind_of choice
  reject ← flag_in (codes "REJECTIFMISSING") sync
  object ← object_in family sync
  deeds ← deeds_of (request_name family) (children sync)
  Ok (record { object = object; kind = kind; reject = reject; deeds = deeds })

-- ---- replies

abbrev pub family_reported_of : Item → Result Family TreeFault
family_reported_of sync =
    if has_name (codes "INTRASYNCRS") sync then Ok families.Intra
    else (if has_name (codes "RECINTRASYNCRS") sync then Ok families.RecIntra
    else (if has_name (codes "BANKMAILSYNCRS") sync then Ok families.BankMail
    else (if has_name (codes "MAILSYNCRS") sync then Ok families.Mail else Err (Value sync.node.offset))))

abbrev pub reply_onto : DeedReply → List DeedReply → Result (List DeedReply) TreeFault
reply_onto reply replies = Ok (reply ∷ replies)

unfoldable pub replies_of : List ℕ → List Item → Result (List DeedReply) TreeFault
replies_of name [] = Ok []
replies_of name (child ∷ more) =
    if has_name name child then (transaction_reply_of child >>= λ reply. replies_of name more >>= reply_onto reply)
    else replies_of name more

unfoldable pub sync_reply_of : Item → Result SyncReply TreeFault
sync_reply_of sync = do
  family ← family_reported_of sync
  token ← text_in (codes "TOKEN") 64 sync
  lost ← maybe_flag_in (codes "LOSTSYNC") sync
  object ← object_in family sync
  replies ← replies_of (reply_name family) (children sync)
  Ok (record { object = object; token = token; lost = lost; replies = replies })
