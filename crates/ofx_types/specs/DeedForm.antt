-- The forms of deeds and of the answers to them: transfers inside the bank and recurring transfers (OFX 1.6, "Intrabank
-- Funds Transfer", "Recurring Transactions").
use Rattle.std.specs.Prelude.{◌≡◌, ◌≢◌, ℕ, List, [], codes, Option, None, Some}
use Rattle.ofx_types.specs.Nodes.{Item}
use Rattle.ofx_types.specs.FormWords.{IsOnlyOf, IsTextIn, IsFlagIn, IsIdIn, IsMaybeIdIn}
use Rattle.ofx_types.specs.RequestForm.{IsTrnUidOf}
use Rattle.ofx_types.specs.ReplyGrammar.{IsStatus}
use Rattle.ofx_types.specs.TransferForm.{HasXferInfo, IsRow, transfer_requests, transfer_replies}
use Rattle.ofx_types.specs.RecurringForm.{HasRecur, HasEachInfo, IsModelRow, model_requests, model_replies}
use Rattle.ofx_types.specs.declared.transfer.Deed.{Deed}
use Rattle.ofx_types.specs.declared.transfer.Deed.TheVariants as deeds
use Rattle.ofx_types.specs.declared.transfer.Deed.TheVariants.{Transfer, ModifyTransfer, CancelTransfer, Model, ModifyModel, CancelModel}
use Rattle.ofx_types.specs.declared.transfer.Change.{Change}
use Rattle.ofx_types.specs.declared.transfer.Change.TheVariants.{NewTransfer, SetTransfer, DropTransfer, NewModel, SetModel, DropModel, NewMail}
use Rattle.ofx_types.specs.declared.transfer.Family.{Family}
use Rattle.ofx_types.specs.declared.transfer.Family.TheVariants.{Intra, RecIntra, BankMail, Mail}
use Rattle.ofx_types.specs.declared.transfer.DeedReply.{DeedReply}

-- what a deed belongs to
abbrev pub family_of : Deed → Family
family_of (Transfer info) = Intra
family_of (ModifyTransfer id info) = Intra
family_of (CancelTransfer id) = Intra
family_of (Model recur info) = RecIntra
family_of (ModifyModel id recur info pending) = RecIntra
family_of (CancelModel id pending) = RecIntra
family_of (deeds.BankMail account mail) = BankMail
family_of (deeds.Mail mail) = Mail

-- ---- requests

-- the aggregate of a deed's request
abbrev pub request_name : Family → List ℕ
request_name Intra = codes "INTRATRNRQ"
request_name RecIntra = codes "RECINTRATRNRQ"
request_name BankMail = codes "BANKMAILTRNRQ"
request_name Mail = codes "MAILTRNRQ"

-- The requests of which just one is in it. Those of mail have forms of their own.
abbrev pub requests_in : Family → List (List ℕ)
requests_in Intra = transfer_requests
requests_in RecIntra = model_requests
requests_in BankMail = []
requests_in Mail = []

-- INTRARQ, INTRAMODRQ, INTRACANRQ, RECINTRARQ, RECINTRAMODRQ and RECINTRACANRQ. A mail is none of them.
abbrev pub IsDeedRequest : Item → Deed → Type 0
IsDeedRequest request (Transfer info) = (request.node.name ≡ codes "INTRARQ") × HasXferInfo request info
IsDeedRequest request (ModifyTransfer id info) =
    (request.node.name ≡ codes "INTRAMODRQ") × IsIdIn (codes "SRVRTID") request id × HasXferInfo request info
IsDeedRequest request (CancelTransfer id) = (request.node.name ≡ codes "INTRACANRQ") × IsIdIn (codes "SRVRTID") request id
IsDeedRequest request (Model recur info) =
    (request.node.name ≡ codes "RECINTRARQ") × HasRecur request recur × HasEachInfo request info
IsDeedRequest request (ModifyModel id recur info pending) =
    (request.node.name ≡ codes "RECINTRAMODRQ") × IsIdIn (codes "RECSRVRTID") request id × HasRecur request recur
    × HasEachInfo request info × IsFlagIn (codes "MODPENDING") request pending
IsDeedRequest request (CancelModel id pending) =
    (request.node.name ≡ codes "RECINTRACANRQ") × IsIdIn (codes "RECSRVRTID") request id
    × IsFlagIn (codes "CANPENDING") request pending
IsDeedRequest request (deeds.BankMail account mail) = ⊥
IsDeedRequest request (deeds.Mail mail) = ⊥

-- INTRATRNRQ and RECINTRATRNRQ: a uid, and just one of the three requests of each.
pub record IsDeed (transaction : Item) (trnuid : List ℕ) (deed : Deed) : Type 0 where
  pub is_named : transaction.node.name ≡ request_name (family_of deed)
  pub has_trnuid : IsTrnUidOf transaction trnuid
  pub request : Item
  pub has_request : IsOnlyOf (requests_in (family_of deed)) transaction request
  pub is_request : IsDeedRequest request deed

-- ---- replies

-- the aggregate of the answer to a deed
abbrev pub reply_name : Family → List ℕ
reply_name Intra = codes "INTRATRNRS"
reply_name RecIntra = codes "RECINTRATRNRS"
reply_name BankMail = codes "BANKMAILTRNRS"
reply_name Mail = codes "MAILTRNRS"

-- the replies of which just one is in it where the deed was done
abbrev pub replies_in : Family → List (List ℕ)
replies_in Intra = transfer_replies
replies_in RecIntra = model_replies
replies_in BankMail = []
replies_in Mail = []

-- INTRARS, INTRAMODRS, INTRACANRS, RECINTRARS, RECINTRAMODRS and RECINTRACANRS. None of them reports a mail.
abbrev pub IsChange : Item → Change → Type 0
IsChange reply (NewTransfer row) =
    (reply.node.name ≡ codes "INTRARS") × IsRow reply row × IsMaybeIdIn (codes "RECSRVRTID") reply row.model
IsChange reply (SetTransfer row) = (reply.node.name ≡ codes "INTRAMODRS") × IsRow reply row × (row.model ≡ 0)
IsChange reply (DropTransfer id) = (reply.node.name ≡ codes "INTRACANRS") × IsIdIn (codes "SRVRTID") reply id
IsChange reply (NewModel row) = (reply.node.name ≡ codes "RECINTRARS") × IsModelRow reply row
IsChange reply (SetModel row pending) =
    (reply.node.name ≡ codes "RECINTRAMODRS") × IsModelRow reply row × IsFlagIn (codes "MODPENDING") reply pending
IsChange reply (DropModel id pending) =
    (reply.node.name ≡ codes "RECINTRACANRS") × IsIdIn (codes "RECSRVRTID") reply id
    × IsFlagIn (codes "CANPENDING") reply pending
IsChange reply (NewMail row) = ⊥

-- With code 0 there is just one of the replies. With any other code nothing more is looked at.
abbrev pub IsChangeByCode : ℕ → Family → Item → Option Change → Type 0
IsChangeByCode code family transaction None = code ≢ 0
IsChangeByCode code family transaction (Some change) =
    (code ≡ 0) × ((reply : Item) × IsOnlyOf (replies_in family) transaction reply × IsChange reply change)

-- the aggregate of the answer to a transfer or to a recurring transfer
abbrev pub IsDeedReplyNamed : Item → Family → Type 0
IsDeedReplyNamed transaction Intra = transaction.node.name ≡ codes "INTRATRNRS"
IsDeedReplyNamed transaction RecIntra = transaction.node.name ≡ codes "RECINTRATRNRS"
IsDeedReplyNamed transaction BankMail = ⊥
IsDeedReplyNamed transaction Mail = ⊥

-- INTRATRNRS and RECINTRATRNRS
pub record IsDeedReply (transaction : Item) (reply : DeedReply) : Type 0 where
  pub is_named : IsDeedReplyNamed transaction reply.family
  pub has_trnuid : IsTextIn (codes "TRNUID") 36 transaction reply.trnuid
  pub has_status : IsStatus transaction reply.code
  pub is_change : IsChangeByCode reply.code reply.family transaction reply.change
