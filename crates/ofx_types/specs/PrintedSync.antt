-- The printed form of synchronisation.
use Rattle.std.specs.Prelude.{ℕ, List, [], ◌++◌, codes}
use Rattle.std.specs.List.{flat_map}
use Rattle.ofx_types.specs.Sheet.{element, aggregate}
use Rattle.ofx_types.specs.FormWords.{flag_word}
use Rattle.ofx_types.specs.CommonText.{account_from}
use Rattle.ofx_types.specs.DeedText.{deed_text, deed_reply_text}
use Rattle.ofx_types.specs.SyncForm.{object_family, sync_name, sync_reply_name}
use Rattle.ofx_types.specs.declared.transfer.Deed.{Deed}
use Rattle.ofx_types.specs.declared.transfer.Family.{Family}
use Rattle.ofx_types.specs.declared.transfer.Family.TheVariants as families
use Rattle.ofx_types.specs.declared.sync.ObjectName.{ObjectName}
use Rattle.ofx_types.specs.declared.sync.ObjectName.TheVariants.{Intra, RecIntra, BankMail, Mail}
use Rattle.ofx_types.specs.declared.sync.SyncKind.{SyncKind}
use Rattle.ofx_types.specs.declared.sync.SyncKind.TheVariants.{After, TokenOnly, Refresh}
use Rattle.ofx_types.specs.declared.sync.SyncAsk.{SyncAsk}
use Rattle.ofx_types.specs.declared.sync.SyncReply.{SyncReply}

-- The account of an object, where it has one.
unfoldable pub object_text : ObjectName → List ℕ
object_text (Intra account) = account_from account
object_text (RecIntra account) = account_from account
object_text (BankMail account) = account_from account
object_text Mail = []

unfoldable pub kind_text : SyncKind → List ℕ
kind_text (After token) = element (codes "TOKEN") token
kind_text TokenOnly = element (codes "TOKENONLY") (codes "Y")
kind_text Refresh = element (codes "REFRESH") (codes "Y")

-- Mail is asked for without images and without HTML.
unfoldable pub plain_text : Family → List ℕ
plain_text families.Intra = []
plain_text families.RecIntra = []
plain_text families.BankMail = element (codes "INCIMAGES") (codes "N") ++ element (codes "USEHTML") (codes "N")
plain_text families.Mail = element (codes "INCIMAGES") (codes "N") ++ element (codes "USEHTML") (codes "N")

abbrev pub transaction_text : List ℕ × Deed → List ℕ
transaction_text deed = deed_text deed.0 deed.1

unfoldable pub sync_text : SyncAsk → List ℕ
sync_text ask = aggregate (sync_name (object_family ask.object))
    (kind_text ask.kind
    ++ (element (codes "REJECTIFMISSING") (flag_word ask.reject)
    ++ (plain_text (object_family ask.object) ++ (object_text ask.object ++ flat_map transaction_text ask.deeds))))

-- LOSTSYNC is always written.
unfoldable pub sync_reply_text : SyncReply → List ℕ
sync_reply_text reply = aggregate (sync_reply_name (object_family reply.object))
    (element (codes "TOKEN") reply.token
    ++ (element (codes "LOSTSYNC") (flag_word reply.lost) ++ (object_text reply.object ++ flat_map deed_reply_text reply.replies)))
