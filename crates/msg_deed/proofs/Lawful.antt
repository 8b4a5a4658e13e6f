-- The documents of sound deeds and of sound answers to them are lawful.
use Rattle.std.proofs.Common.{ℕ, ◌-◌, ◌<◌, ◌≤◌, Bool, true, false, nat_eq, List, codes, Option, None, Some, refl, arith}
use Rattle.std.specs.Option.{IfSome}
use Rattle.std.specs.Fmt.{decimal}
use Rattle.ofx_types.specs.Calendar.{midnight}
use Rattle.ofx_types.specs.FormWords.{flag_word}
use Rattle.ofx_types.specs.TransferForm.{code_word, info_of}
use Rattle.ofx_types.specs.RecurringForm.{freq_word, first_info}
use Rattle.ofx_types.specs.DeedForm.{family_of}
use Rattle.ofx_types.specs.declared.number.Day.{Day}
use Rattle.ofx_types.specs.declared.number.Moment.{Moment}
use Rattle.ofx_types.specs.declared.recurring.Freq.{Freq}
use Rattle.ofx_types.specs.declared.recurring.Freq.TheVariants.{Weekly, Biweekly, TwiceMonthly, Monthly, FourWeeks, Bimonthly, Quarterly, Semiannually, Annually}
use Rattle.ofx_types.specs.declared.recurring.Recur.{Recur}
use Rattle.ofx_types.specs.declared.recurring.ModelRow.{ModelRow}
use Rattle.ofx_types.specs.declared.transfer.XferInfo.{XferInfo}
use Rattle.ofx_types.specs.declared.transfer.Deed.{Deed}
use Rattle.ofx_types.specs.declared.transfer.Deed.TheVariants.{Transfer, ModifyTransfer, CancelTransfer, Model, ModifyModel, CancelModel}
use Rattle.ofx_types.specs.declared.transfer.XferCode.{XferCode}
use Rattle.ofx_types.specs.declared.transfer.XferCode.TheVariants.{Waiting, Posted, NoFunds, Cancelled}
use Rattle.ofx_types.specs.declared.transfer.TransferRow.{TransferRow}
use Rattle.ofx_types.specs.declared.transfer.Change.{Change}
use Rattle.ofx_types.specs.declared.transfer.Change.TheVariants.{NewTransfer, SetTransfer, DropTransfer, NewModel, SetModel, DropModel, NewMail}
use Rattle.ofx_types.specs.declared.transfer.Family.{Family}
use Rattle.ofx_types.specs.declared.transfer.Family.TheVariants.{BankMail, Mail}
use Rattle.ofx_types.specs.declared.transfer.DeedReply.{DeedReply}
use Rattle.ofx_types.specs.declared.transfer.Deed.TheVariants as kinds
use Rattle.ofx_types.proofs.Days.{IsMoment-midnight}
use Rattle.ofx_tree.specs.PrintedForm.{IsElementName}
use Rattle.ofx_tree.specs.Documents.{Documents, empty, leaf, branch, AreLawful, IsLeaf}
use Rattle.ofx_tree.proofs.Leaves.{amount_leaf, moment_leaf, number_leaf, flag_leaf}
use Rattle.msg_parts.specs.DeedDocuments.{due_document, info_documents, count_document, recur_documents, each_documents, request_documents, deed_documents, processing_documents, set_documents, first_documents, model_documents, change_documents, change_document, deed_reply_documents}
use Rattle.msg_parts.specs.SoundParts.{IsSoundMoment}
use Rattle.msg_parts.proofs.Lawful.{named, is_branch, text_leaf, currency_leaf, account_lawful, status_lawful}
use Rattle.msg_parts.proofs.PrintedDeeds.{model_with, new_with}
use Rattle.msg_parts.proofs.Branches.{request_branch, transaction_branch, change_branch, answer_branch}
use Rattle.msg_deed.specs.DeedsReadBack.{DeedsAreLawful, DeedRepliesAreLawful}
use Rattle.msg_deed.specs.SoundDeeds.{IsId, IsSoundDay, IsSoundInfo, IsSoundRecur, IsSoundDeed, IsSoundDeedRequest, IsSoundRow, IsSoundModelRow, IsSoundChange, IsSoundChangeByCode, IsSoundDeedReply}

-- ---- they are lawful

pub code_leaf : (code : XferCode) → IsLeaf (codes "XFERPRCCODE") (code_word code)
code_leaf Waiting = record { has_name = named (codes "XFERPRCCODE") refl refl; is_text = record { is_trimmed = refl; is_clean = refl; is_short = omega arith }; is_there = omega arith }
code_leaf Posted = record { has_name = named (codes "XFERPRCCODE") refl refl; is_text = record { is_trimmed = refl; is_clean = refl; is_short = omega arith }; is_there = omega arith }
code_leaf NoFunds = record { has_name = named (codes "XFERPRCCODE") refl refl; is_text = record { is_trimmed = refl; is_clean = refl; is_short = omega arith }; is_there = omega arith }
code_leaf Cancelled = record { has_name = named (codes "XFERPRCCODE") refl refl; is_text = record { is_trimmed = refl; is_clean = refl; is_short = omega arith }; is_there = omega arith }

pub id_leaf : (name : List ℕ) (id : ℕ) → IsElementName name → IsId id → IsLeaf name (decimal id)
id_leaf name id n h = number_leaf name id n (omega (arith, h))

due_lawful : (room : ℕ) (due : Option Day) → IfSome due IsSoundDay → AreLawful room (due_document due)
due_lawful room None h = tt
due_lawful room (Some day) h = (moment_leaf (codes "DTDUE") (midnight day.0) (named (codes "DTDUE") refl refl) (IsMoment-midnight day.0 h), tt)

pub info_lawful : (room : ℕ) (info : XferInfo) → 0 < room → IsSoundInfo info → AreLawful room (info_documents info)
info_lawful room info some i = (
  is_branch (codes "BANKACCTFROM") refl refl refl,
  some,
  account_lawful (room - 1) info.from i.from,
  (
    is_branch (codes "BANKACCTTO") refl refl refl,
    some,
    account_lawful (room - 1) info.to i.to,
    (amount_leaf (codes "TRNAMT") info.amount.0 (named (codes "TRNAMT") refl refl) i.amount, due_lawful room info.due i.due),
  ),
)

-- XFERINFO before more
pub info_in_lawful : (room : ℕ) (info : XferInfo) (rest : Documents) → 1 < room → IsSoundInfo info → AreLawful room rest →
    AreLawful room (branch (codes "XFERINFO") (info_documents info) rest)
info_in_lawful room info rest some i more =
    (is_branch (codes "XFERINFO") refl refl refl, omega arith, info_lawful (room - 1) info (omega arith) i, more)

pub freq_leaf : (freq : Freq) → IsLeaf (codes "FREQ") (freq_word freq)
freq_leaf Weekly = record { has_name = named (codes "FREQ") refl refl; is_text = record { is_trimmed = refl; is_clean = refl; is_short = omega arith }; is_there = omega arith }
freq_leaf Biweekly = record { has_name = named (codes "FREQ") refl refl; is_text = record { is_trimmed = refl; is_clean = refl; is_short = omega arith }; is_there = omega arith }
freq_leaf TwiceMonthly = record { has_name = named (codes "FREQ") refl refl; is_text = record { is_trimmed = refl; is_clean = refl; is_short = omega arith }; is_there = omega arith }
freq_leaf Monthly = record { has_name = named (codes "FREQ") refl refl; is_text = record { is_trimmed = refl; is_clean = refl; is_short = omega arith }; is_there = omega arith }
freq_leaf FourWeeks = record { has_name = named (codes "FREQ") refl refl; is_text = record { is_trimmed = refl; is_clean = refl; is_short = omega arith }; is_there = omega arith }
freq_leaf Bimonthly = record { has_name = named (codes "FREQ") refl refl; is_text = record { is_trimmed = refl; is_clean = refl; is_short = omega arith }; is_there = omega arith }
freq_leaf Quarterly = record { has_name = named (codes "FREQ") refl refl; is_text = record { is_trimmed = refl; is_clean = refl; is_short = omega arith }; is_there = omega arith }
freq_leaf Semiannually = record { has_name = named (codes "FREQ") refl refl; is_text = record { is_trimmed = refl; is_clean = refl; is_short = omega arith }; is_there = omega arith }
freq_leaf Annually = record { has_name = named (codes "FREQ") refl refl; is_text = record { is_trimmed = refl; is_clean = refl; is_short = omega arith }; is_there = omega arith }

count_lawful : (room : ℕ) (count : Option ℕ) (rest : Documents) → IfSome count (λ (n : ℕ). (0 < n) × (n ≤ 999)) → AreLawful room rest →
    AreLawful room (count_document count rest)
count_lawful room None rest h more = more
count_lawful room (Some count) rest h more =
    let small : count ≤ 999 = h.1 in (number_leaf (codes "NINSTS") count (named (codes "NINSTS") refl refl) (omega arith), more)

pub recur_lawful : (room : ℕ) (recur : Recur) → IsSoundRecur recur → AreLawful room (recur_documents recur)
recur_lawful room recur r = count_lawful room recur.count _ r (freq_leaf recur.freq, tt)

-- RECURRINST before more
recur_in_lawful : (room : ℕ) (recur : Recur) (rest : Documents) → 0 < room → IsSoundRecur recur → AreLawful room rest →
    AreLawful room (branch (codes "RECURRINST") (recur_documents recur) rest)
recur_in_lawful room recur rest some r more = (is_branch (codes "RECURRINST") refl refl refl, some, recur_lawful (room - 1) recur r, more)

pub each_lawful : (room : ℕ) (info : XferInfo) → 1 < room → IsSoundInfo info → AreLawful room (each_documents info)
each_lawful room info some i = info_in_lawful room info empty some i tt

-- the inner INTRARQ before more
each_in_lawful : (room : ℕ) (info : XferInfo) (rest : Documents) → 2 < room → IsSoundInfo info → AreLawful room rest →
    AreLawful room (branch (codes "INTRARQ") (each_documents info) rest)
each_in_lawful room info rest some i more =
    (is_branch (codes "INTRARQ") refl refl refl, omega arith, each_lawful (room - 1) info (omega arith) i, more)

flag_lawful : (room : ℕ) (name : List ℕ) (flag : Bool) → IsElementName name → AreLawful room (leaf name (flag_word flag) empty)
flag_lawful room name flag n = (flag_leaf name flag n, tt)

pub request_lawful : (room : ℕ) (deed : Deed) → 2 < room → IsSoundDeed deed → AreLawful room (request_documents deed)
request_lawful room (Transfer info) some d = each_lawful room info (omega arith) d
request_lawful room (ModifyTransfer id info) some d =
    (id_leaf (codes "SRVRTID") id (named (codes "SRVRTID") refl refl) d.0, each_lawful room info (omega arith) d.1)
request_lawful room (CancelTransfer id) some d = (id_leaf (codes "SRVRTID") id (named (codes "SRVRTID") refl refl) d, tt)
request_lawful room (Model recur info) some d =
    recur_in_lawful room recur (branch (codes "INTRARQ") (each_documents info) empty) (omega arith) d.0 (each_in_lawful room info empty some d.1 tt)
request_lawful room (ModifyModel id recur info pending) some d =
    let flag = leaf (codes "MODPENDING") (flag_word pending) empty in
    let flagged = flag_lawful room (codes "MODPENDING") pending (named (codes "MODPENDING") refl refl) in (
      id_leaf (codes "RECSRVRTID") id (named (codes "RECSRVRTID") refl refl) d.0,
      recur_in_lawful room recur (branch (codes "INTRARQ") (each_documents info) flag) (omega arith) d.1 (each_in_lawful room info flag some d.2 flagged),
    )
request_lawful room (CancelModel id pending) some d =
    (id_leaf (codes "RECSRVRTID") id (named (codes "RECSRVRTID") refl refl) d, flag_lawful room (codes "CANPENDING") pending (named (codes "CANPENDING") refl refl))
request_lawful room (kinds.BankMail account mail) some d = absurd d
request_lawful room (kinds.Mail mail) some d = absurd d

pub deed_lawful : (room : ℕ) (trnuid : List ℕ) (deed : Deed) → 3 < room → IsSoundDeedRequest trnuid deed → AreLawful room (deed_documents trnuid deed)
deed_lawful room trnuid deed some d = (
  text_leaf (codes "TRNUID") 36 trnuid (named (codes "TRNUID") refl refl) d.is_uid,
  (request_branch deed, omega arith, request_lawful (room - 1) deed (omega arith) d.is_deed, tt),
)

pub deeds_lawful : DeedsAreLawful
deeds_lawful room trnuid deed rest some d more =
    (transaction_branch (family_of deed), omega arith, deed_lawful (room - 1) trnuid deed (omega arith) d, more)

pub processing_lawful : (room : ℕ) (code : XferCode) (stamp : Moment) → IsSoundMoment stamp → AreLawful room (processing_documents code stamp)
processing_lawful room code stamp m = (code_leaf code, (moment_leaf (codes "DTXFERPRC") stamp.0 (named (codes "DTXFERPRC") refl refl) m, tt))

-- XFERPRCSTS as the last
processing_in_lawful : (room : ℕ) (row : TransferRow) → 0 < room → IsSoundRow row →
    AreLawful room (branch (codes "XFERPRCSTS") (processing_documents row.code row.stamp) empty)
processing_in_lawful room row some r =
    (is_branch (codes "XFERPRCSTS") refl refl refl, some, processing_lawful (room - 1) row.code row.stamp r.stamp, tt)

model_lawful : (room : ℕ) (is_none : Bool) (model : ℕ) (rest : Documents) → IsId model → AreLawful room rest →
    AreLawful room (model_with is_none model rest)
model_lawful room true model rest h more = more
model_lawful room false model rest h more = (id_leaf (codes "RECSRVRTID") model (named (codes "RECSRVRTID") refl refl) h, more)

pub new_lawful : (room : ℕ) (is_none : Bool) (row : TransferRow) → 1 < room → IsSoundRow row → IsId row.model → AreLawful room (new_with is_none row)
new_lawful room is_none row some r m = (
  currency_leaf,
  (id_leaf (codes "SRVRTID") row.id (named (codes "SRVRTID") refl refl) r.id, info_in_lawful room (info_of row) _ some r.info (model_lawful room is_none row.model _ m (processing_in_lawful room row (omega arith) r))),
)

pub set_lawful : (room : ℕ) (row : TransferRow) → 1 < room → IsSoundRow row → AreLawful room (set_documents row)
set_lawful room row some r =
    (id_leaf (codes "SRVRTID") row.id (named (codes "SRVRTID") refl refl) r.id, info_in_lawful room (info_of row) (branch (codes "XFERPRCSTS") (processing_documents row.code row.stamp) empty) some r.info (processing_in_lawful room row (omega arith) r))

pub first_lawful : (room : ℕ) (row : ModelRow) → 1 < room → IsSoundModelRow row → AreLawful room (first_documents row)
first_lawful room row some r = (
  currency_leaf,
  (
    id_leaf (codes "SRVRTID") row.id (named (codes "SRVRTID") refl refl) r.id,
    info_in_lawful room (first_info row) (leaf (codes "RECSRVRTID") (decimal row.id) empty) some r.info
        (id_leaf (codes "RECSRVRTID") row.id (named (codes "RECSRVRTID") refl refl) r.id, tt),
  ),
)

-- what is said of a recurring transfer, before more
model_in_lawful : (room : ℕ) (row : ModelRow) (rest : Documents) → 2 < room → IsSoundModelRow row → AreLawful room rest →
    AreLawful room (model_documents row rest)
model_in_lawful room row rest some r more = (
  id_leaf (codes "RECSRVRTID") row.id (named (codes "RECSRVRTID") refl refl) r.id,
  recur_in_lawful room row.recur (branch (codes "INTRARS") (first_documents row) rest) (omega arith) r.recur
      (is_branch (codes "INTRARS") refl refl refl, omega arith, first_lawful (room - 1) row (omega arith) r, more),
)

pub change_lawful : (room : ℕ) (change : Change) → 2 < room → IsSoundChange change → AreLawful room (change_documents change)
change_lawful room (NewTransfer row) some c = new_lawful room (nat_eq row.model 0) row (omega arith) c.0 c.1
change_lawful room (SetTransfer row) some c = set_lawful room row (omega arith) c
change_lawful room (DropTransfer id) some c = (id_leaf (codes "SRVRTID") id (named (codes "SRVRTID") refl refl) c, tt)
change_lawful room (NewModel row) some c = model_in_lawful room row empty some c tt
change_lawful room (SetModel row pending) some c =
    model_in_lawful room row (leaf (codes "MODPENDING") (flag_word pending) empty) some c
    (flag_lawful room (codes "MODPENDING") pending (named (codes "MODPENDING") refl refl))
change_lawful room (DropModel id pending) some c =
    (id_leaf (codes "RECSRVRTID") id (named (codes "RECSRVRTID") refl refl) c, flag_lawful room (codes "CANPENDING") pending (named (codes "CANPENDING") refl refl))
change_lawful room (NewMail row) some c = absurd c

maybe_change_lawful : (room code : ℕ) (family : Family) (change : Option Change) → 3 < room → IsSoundChangeByCode code family change →
    AreLawful room (change_document change)
maybe_change_lawful room code family None some c = tt
maybe_change_lawful room code family (Some change) some c = (change_branch change, omega arith, change_lawful (room - 1) change (omega arith) c.2, tt)

pub deed_reply_lawful : (room : ℕ) (reply : DeedReply) → 3 < room → IsSoundDeedReply reply →
    AreLawful room (deed_reply_documents reply.trnuid reply.code reply.change)
deed_reply_lawful room reply some r = (
  text_leaf (codes "TRNUID") 36 reply.trnuid (named (codes "TRNUID") refl refl) r.is_uid,
  (is_branch (codes "STATUS") refl refl refl, omega arith, status_lawful (room - 1) reply.code r.is_code, maybe_change_lawful room reply.code reply.family reply.change some r.is_change),
)

pub deed_replies_lawful : DeedRepliesAreLawful
deed_replies_lawful room reply rest some r more =
    (answer_branch reply.family, omega arith, deed_reply_lawful (room - 1) reply (omega arith) r, more)
