-- The requests of deeds and the answers to them, mails too, as documents of a sheet.
use Rattle.std.specs.Prelude.{◌≡◌, ℕ, ◌==◌, List, ◌++◌, codes, Option, None, Some, if◌then◌else◌}
use Rattle.std.specs.Fmt.{decimal}
use Rattle.ofx_types.specs.AmountForm.{amount_text}
use Rattle.ofx_types.specs.Calendar.{midnight}
use Rattle.ofx_types.specs.DateForm.{moment_text}
use Rattle.ofx_types.specs.TransferForm.{code_word, info_of}
use Rattle.ofx_types.specs.FormWords.{flag_word}
use Rattle.ofx_types.specs.RecurringForm.{freq_word, first_info}
use Rattle.ofx_types.specs.DeedForm.{family_of, request_name, reply_name}
use Rattle.ofx_types.specs.DeedText.{deed_text, deed_reply_text}
use Rattle.ofx_types.specs.declared.number.Day.{Day}
use Rattle.ofx_types.specs.declared.number.Moment.{Moment}
use Rattle.ofx_types.specs.declared.recurring.Recur.{Recur}
use Rattle.ofx_types.specs.declared.recurring.ModelRow.{ModelRow}
use Rattle.ofx_types.specs.declared.transfer.XferInfo.{XferInfo}
use Rattle.ofx_types.specs.declared.transfer.Deed.{Deed}
use Rattle.ofx_types.specs.declared.transfer.Deed.TheVariants.{Transfer, ModifyTransfer, CancelTransfer, Model, ModifyModel, CancelModel, BankMail, Mail}
use Rattle.ofx_types.specs.declared.transfer.XferCode.{XferCode}
use Rattle.ofx_types.specs.declared.transfer.TransferRow.{TransferRow}
use Rattle.ofx_types.specs.declared.transfer.Change.{Change}
use Rattle.ofx_types.specs.declared.transfer.Change.TheVariants.{NewTransfer, SetTransfer, DropTransfer, NewModel, SetModel, DropModel, NewMail}
use Rattle.ofx_types.specs.declared.transfer.DeedReply.{DeedReply}
use Rattle.ofx_tree.specs.Documents.{Documents, empty, leaf, branch, printed}
use Rattle.msg_parts.specs.PartDocuments.{account_documents, status_documents}
use Rattle.msg_parts.specs.MailDocuments.{mail_about, mail_reply_name}

-- ---- requests

-- A due day is written as its midnight in GMT.
abbrev pub due_document : Option Day → Documents
due_document None = empty
due_document (Some day) = leaf (codes "DTDUE") (moment_text (midnight day.0)) empty

-- what is in XFERINFO
abbrev pub info_documents : XferInfo → Documents
info_documents info =
    branch (codes "BANKACCTFROM") (account_documents info.from)
    (branch (codes "BANKACCTTO") (account_documents info.to)
    (leaf (codes "TRNAMT") (amount_text info.amount.0) (due_document info.due)))

-- A count that may be left out, before more.
abbrev pub count_document : Option ℕ → Documents → Documents
count_document None rest = rest
count_document (Some count) rest = leaf (codes "NINSTS") (decimal count) rest

-- what is in RECURRINST
abbrev pub recur_documents : Recur → Documents
recur_documents recur = count_document recur.count (leaf (codes "FREQ") (freq_word recur.freq) empty)

-- what is in INTRARQ, also in the one inside the request of a recurring transfer
abbrev pub each_documents : XferInfo → Documents
each_documents info = branch (codes "XFERINFO") (info_documents info) empty

-- the request that is in the transaction of a deed, and what is in it
abbrev pub asked_name : Deed → List ℕ
asked_name (Transfer info) = codes "INTRARQ"
asked_name (ModifyTransfer id info) = codes "INTRAMODRQ"
asked_name (CancelTransfer id) = codes "INTRACANRQ"
asked_name (Model recur info) = codes "RECINTRARQ"
asked_name (ModifyModel id recur info pending) = codes "RECINTRAMODRQ"
asked_name (CancelModel id pending) = codes "RECINTRACANRQ"
asked_name (BankMail account mail) = codes "BANKMAILRQ"
asked_name (Mail mail) = codes "MAILRQ"

abbrev pub request_documents : Deed → Documents
request_documents (Transfer info) = each_documents info
request_documents (ModifyTransfer id info) = leaf (codes "SRVRTID") (decimal id) (each_documents info)
request_documents (CancelTransfer id) = leaf (codes "SRVRTID") (decimal id) empty
request_documents (Model recur info) =
    branch (codes "RECURRINST") (recur_documents recur) (branch (codes "INTRARQ") (each_documents info) empty)
request_documents (ModifyModel id recur info pending) =
    leaf (codes "RECSRVRTID") (decimal id)
    (branch (codes "RECURRINST") (recur_documents recur)
    (branch (codes "INTRARQ") (each_documents info) (leaf (codes "MODPENDING") (flag_word pending) empty)))
request_documents (CancelModel id pending) =
    leaf (codes "RECSRVRTID") (decimal id) (leaf (codes "CANPENDING") (flag_word pending) empty)
request_documents (BankMail account mail) = mail_about (Some account) mail.sender mail
request_documents (Mail mail) = mail_about None mail.sender mail

-- what is in INTRATRNRQ, RECINTRATRNRQ, BANKMAILTRNRQ and MAILTRNRQ
abbrev pub deed_documents : List ℕ → Deed → Documents
deed_documents trnuid deed = leaf (codes "TRNUID") trnuid (branch (asked_name deed) (request_documents deed) empty)

-- ---- replies

-- what is in XFERPRCSTS
abbrev pub processing_documents : XferCode → Moment → Documents
processing_documents code stamp =
    leaf (codes "XFERPRCCODE") (code_word code) (leaf (codes "DTXFERPRC") (moment_text stamp.0) empty)

-- The recurring transfer that made it, where one did.
abbrev pub model_document : ℕ → Documents → Documents
model_document model rest = if model == 0 then rest else leaf (codes "RECSRVRTID") (decimal model) rest

-- what is in INTRARS
abbrev pub new_documents : TransferRow → Documents
new_documents row =
    leaf (codes "CURDEF") (codes "USD")
    (leaf (codes "SRVRTID") (decimal row.id)
    (branch (codes "XFERINFO") (info_documents (info_of row))
    (model_document row.model (branch (codes "XFERPRCSTS") (processing_documents row.code row.stamp) empty))))

-- what is in INTRAMODRS
abbrev pub set_documents : TransferRow → Documents
set_documents row =
    leaf (codes "SRVRTID") (decimal row.id)
    (branch (codes "XFERINFO") (info_documents (info_of row))
    (branch (codes "XFERPRCSTS") (processing_documents row.code row.stamp) empty))

-- what is in the INTRARS inside the reply of a recurring transfer
abbrev pub first_documents : ModelRow → Documents
first_documents row =
    leaf (codes "CURDEF") (codes "USD")
    (leaf (codes "SRVRTID") (decimal row.id)
    (branch (codes "XFERINFO") (info_documents (first_info row)) (leaf (codes "RECSRVRTID") (decimal row.id) empty)))

-- what a reply says of a recurring transfer, before more
abbrev pub model_documents : ModelRow → Documents → Documents
model_documents row rest =
    leaf (codes "RECSRVRTID") (decimal row.id)
    (branch (codes "RECURRINST") (recur_documents row.recur) (branch (codes "INTRARS") (first_documents row) rest))

-- the reply that is in the transaction of an answer, and what is in it
abbrev pub change_name : Change → List ℕ
change_name (NewTransfer row) = codes "INTRARS"
change_name (SetTransfer row) = codes "INTRAMODRS"
change_name (DropTransfer id) = codes "INTRACANRS"
change_name (NewModel row) = codes "RECINTRARS"
change_name (SetModel row pending) = codes "RECINTRAMODRS"
change_name (DropModel id pending) = codes "RECINTRACANRS"
change_name (NewMail row) = mail_reply_name row.about

abbrev pub change_documents : Change → Documents
change_documents (NewTransfer row) = new_documents row
change_documents (SetTransfer row) = set_documents row
change_documents (DropTransfer id) = leaf (codes "SRVRTID") (decimal id) empty
change_documents (NewModel row) = model_documents row empty
change_documents (SetModel row pending) = model_documents row (leaf (codes "MODPENDING") (flag_word pending) empty)
change_documents (DropModel id pending) =
    leaf (codes "RECSRVRTID") (decimal id) (leaf (codes "CANPENDING") (flag_word pending) empty)
change_documents (NewMail row) = mail_about row.about row.user row.mail

abbrev pub change_document : Option Change → Documents
change_document None = empty
change_document (Some change) = branch (change_name change) (change_documents change) empty

-- what is in INTRATRNRS, RECINTRATRNRS, BANKMAILTRNRS and MAILTRNRS
abbrev pub deed_reply_documents : List ℕ → ℕ → Option Change → Documents
deed_reply_documents trnuid code change =
    leaf (codes "TRNUID") trnuid (branch (codes "STATUS") (status_documents code) (change_document change))

-- ---- they read back

-- What is written of a deed, a mail too, are its documents.
abbrev pub DeedsAreDocuments : Type 0
DeedsAreDocuments =
    (trnuid : List ℕ) (deed : Deed) (rest : Documents)
    → printed (branch (request_name (family_of deed)) (deed_documents trnuid deed) rest) ≡ deed_text trnuid deed ++ printed rest

-- The same of the answers to deeds, of which a changed transfer is read with model 0.
abbrev pub DeedRepliesAreDocuments : Type 0
DeedRepliesAreDocuments =
    (reply : DeedReply) (rest : Documents)
    → printed (branch (reply_name reply.family) (deed_reply_documents reply.trnuid reply.code reply.change) rest)
    ≡ deed_reply_text reply ++ printed rest
