-- The printed forms of deeds and of the answers to them, mails too, are those of their documents.
use Rattle.std.proofs.Common.{◌≡◌, ℕ, ◌-◌, Bool, true, false, cond, nat_eq, List, [], ◌++◌, codes, Option, None, Some, refl, ◌∙◌, append-nil, append_assoc}
use Rattle.std.specs.Fmt.{decimal}
use Rattle.ofx_types.specs.TransferForm.{info_of}
use Rattle.ofx_types.specs.RecurringForm.{first_info}
use Rattle.ofx_types.specs.Sheet as sheet
use Rattle.ofx_types.specs.TransferText as text
use Rattle.ofx_types.specs.DeedText as deeds
use Rattle.ofx_types.specs.CommonText as common
use Rattle.ofx_types.specs.PrintedMail as mails
use Rattle.ofx_types.specs.declared.account.AcctName.{AcctName}
use Rattle.ofx_types.specs.declared.mail.MailText.{MailText}
use Rattle.ofx_types.specs.declared.mail.MailRow.{MailRow}
use Rattle.ofx_types.specs.declared.number.Day.{Day}
use Rattle.ofx_types.specs.declared.number.Moment.{Moment}
use Rattle.ofx_types.specs.declared.recurring.Recur.{Recur}
use Rattle.ofx_types.specs.declared.recurring.ModelRow.{ModelRow}
use Rattle.ofx_types.specs.declared.transfer.XferInfo.{XferInfo}
use Rattle.ofx_types.specs.declared.transfer.Deed.{Deed}
use Rattle.ofx_types.specs.declared.transfer.Deed.TheVariants.{Transfer, ModifyTransfer, CancelTransfer, Model, ModifyModel, CancelModel}
use Rattle.ofx_types.specs.declared.transfer.XferCode.{XferCode}
use Rattle.ofx_types.specs.declared.transfer.TransferRow.{TransferRow}
use Rattle.ofx_types.specs.declared.transfer.Change.{Change}
use Rattle.ofx_types.specs.declared.transfer.Change.TheVariants.{NewTransfer, SetTransfer, DropTransfer, NewModel, SetModel, DropModel, NewMail}
use Rattle.ofx_types.specs.declared.transfer.Family.TheVariants.{BankMail, Mail}
use Rattle.ofx_types.specs.declared.transfer.Deed.TheVariants as kinds
use Rattle.ofx_tree.specs.Documents.{Documents, empty, leaf, branch, printed}
use Rattle.msg_parts.specs.PartDocuments.{account_documents}
use Rattle.msg_parts.specs.MailDocuments.{mail_documents, mail_about, mail_reply_name}
use Rattle.msg_parts.specs.DeedDocuments.{due_document, info_documents, count_document, recur_documents, each_documents, asked_name, request_documents, processing_documents, model_document, first_documents, model_documents, change_name, change_documents, change_document, DeedsAreDocuments, DeedRepliesAreDocuments}
use Rattle.msg_parts.proofs.Printed.{account_printed, status_printed}

-- ---- with a recurring transfer or with none

abbrev pub model_with : (is_none : Bool) → ℕ → Documents → Documents
model_with is_none model rest = cond is_none rest (leaf (codes "RECSRVRTID") (decimal model) rest)

-- the documents of a new transfer, by whether its model is 0
abbrev pub new_with : (is_none : Bool) → TransferRow → Documents
new_with is_none row =
    leaf (codes "CURDEF") (codes "USD")
    (leaf (codes "SRVRTID") (decimal row.id)
    (branch (codes "XFERINFO") (info_documents (info_of row))
    (model_with is_none row.model (branch (codes "XFERPRCSTS") (processing_documents row.code row.stamp) empty))))

-- ---- they print the forms

account_to_printed : (account : AcctName) → sheet.aggregate (codes "BANKACCTTO") (printed (account_documents account)) ≡ text.account_to account
unfolding text.account_to
account_to_printed account = rw append-nil refl

due_printed : (due : Option Day) → printed (due_document due) ≡ text.due_text due
unfolding text.due_text
due_printed None = refl
due_printed (Some day) = append-nil _

info_printed : (info : XferInfo) → sheet.aggregate (codes "XFERINFO") (printed (info_documents info)) ≡ text.info_text info
unfolding text.info_text
info_printed info = rw (account_printed info.from, account_to_printed info.to, due_printed info.due) refl

-- a count before more
count_printed : (count : Option ℕ) (rest : Documents) → printed (count_document count rest) ≡ deeds.count_text count ++ printed rest
unfolding deeds.count_text
count_printed None rest = refl
count_printed (Some count) rest = refl

recur_printed : (recur : Recur) → sheet.aggregate (codes "RECURRINST") (printed (recur_documents recur)) ≡ deeds.recur_text recur
unfolding deeds.recur_text
recur_printed recur = rw (count_printed recur.count _, append-nil) refl

each_printed : (info : XferInfo) → printed (each_documents info) ≡ text.info_text info
each_printed info = append-nil _ ∙ info_printed info

inner_printed : (info : XferInfo) → sheet.aggregate (codes "INTRARQ") (printed (each_documents info)) ≡ deeds.each_text info
unfolding deeds.each_text
inner_printed info = rw (each_printed info) refl

mail_printed : (user : List ℕ) (text : MailText) → sheet.aggregate (codes "MAIL") (printed (mail_documents user text)) ≡ mails.mail_text user text
unfolding mails.mail_text
mail_printed user text = rw append-nil refl

mail_about_printed : (account : AcctName) (user : List ℕ) (text : MailText) →
    printed (mail_about (Some account) user text) ≡ common.account_from account ++ mails.mail_text user text
mail_about_printed account user text = rw (account_printed account, mail_printed user text, append-nil) refl

bank_mail_printed : (account : AcctName) (text : MailText) →
    sheet.aggregate (codes "BANKMAILRQ") (printed (mail_about (Some account) text.sender text)) ≡ mails.bank_mail_text account text
unfolding mails.bank_mail_text
bank_mail_printed account text = rw (mail_about_printed account text.sender text) refl

plain_mail_printed : (text : MailText) →
    sheet.aggregate (codes "MAILRQ") (printed (mail_about None text.sender text)) ≡ mails.plain_mail_text text
unfolding mails.plain_mail_text
plain_mail_printed text = rw (append-nil, mail_printed text.sender text) refl

request_printed : (deed : Deed) → sheet.aggregate (asked_name deed) (printed (request_documents deed)) ≡ deeds.request_text deed
unfolding deeds.request_text
request_printed (Transfer info) = rw (each_printed info) refl
request_printed (ModifyTransfer id info) = rw (each_printed info) refl
request_printed (CancelTransfer id) = rw append-nil refl
request_printed (Model recur info) = rw (recur_printed recur, inner_printed info, append-nil) refl
request_printed (ModifyModel id recur info pending) = rw (recur_printed recur, inner_printed info, append-nil) refl
request_printed (CancelModel id pending) = rw append-nil refl
request_printed (kinds.BankMail account mail) = bank_mail_printed account mail
request_printed (kinds.Mail mail) = plain_mail_printed mail

pub deeds_printed : DeedsAreDocuments
unfolding deeds.deed_text
deeds_printed trnuid deed rest = rw (append-nil (sheet.aggregate (asked_name deed) (printed (request_documents deed))), request_printed deed) refl

processing_printed : (code : XferCode) (stamp : Moment) → sheet.aggregate (codes "XFERPRCSTS") (printed (processing_documents code stamp)) ≡ text.processing_text code stamp
unfolding text.processing_text
processing_printed code stamp = rw append-nil refl

model_with-printed : (is_none : Bool) (model : ℕ) (rest : Documents) →
    printed (model_with is_none model rest) ≡ cond is_none [] (text.id_text (codes "RECSRVRTID") model) ++ printed rest
model_with-printed true model rest = refl
model_with-printed false model rest = refl

model_printed : (model : ℕ) (rest : Documents) → printed (model_document model rest) ≡ text.model_text model ++ printed rest
unfolding text.model_text
model_printed model rest = model_with-printed (nat_eq model 0) model rest

first_printed : (row : ModelRow) → sheet.aggregate (codes "INTRARS") (printed (first_documents row)) ≡ deeds.first_text row
unfolding deeds.first_text
first_printed row = rw (info_printed (first_info row), append-nil) refl

model_row_printed : (row : ModelRow) (rest : Documents) → printed (model_documents row rest) ≡ deeds.model_row_text row ++ printed rest
unfolding deeds.model_row_text
model_row_printed row rest =
    rw (recur_printed row.recur, first_printed row, append_assoc, append_assoc (deeds.recur_text row.recur) (deeds.first_text row) (printed rest)) refl

mail_row_printed : (about : Option AcctName) (row : MailRow) →
    sheet.aggregate (mail_reply_name about) (printed (mail_about about row.user row.mail)) ≡ mails.mail_row_about about row
unfolding mails.mail_row_about
mail_row_printed None row = rw (append-nil, mail_printed row.user row.mail) refl
mail_row_printed (Some account) row = rw (mail_about_printed account row.user row.mail) refl

change_printed : (change : Change) → sheet.aggregate (change_name change) (printed (change_documents change)) ≡ deeds.change_text change
unfolding deeds.change_text
change_printed (NewTransfer row) =
    rw (info_printed (info_of row), model_printed row.model (branch (codes "XFERPRCSTS") (processing_documents row.code row.stamp) empty), processing_printed row.code row.stamp, append-nil) refl
change_printed (SetTransfer row) = rw (info_printed (info_of row), processing_printed row.code row.stamp, append-nil) refl
change_printed (DropTransfer id) = rw append-nil refl
change_printed (NewModel row) = rw (model_row_printed row empty, append-nil) refl
change_printed (SetModel row pending) = rw (model_row_printed row _, append-nil) refl
change_printed (DropModel id pending) = rw append-nil refl
change_printed (NewMail row) = mail_row_printed row.about row

maybe_change_printed : (change : Option Change) → printed (change_document change) ≡ deeds.maybe_change_text change
unfolding deeds.maybe_change_text
maybe_change_printed None = refl
maybe_change_printed (Some change) = append-nil _ ∙ change_printed change

pub deed_replies_printed : DeedRepliesAreDocuments
unfolding deeds.deed_reply_text
deed_replies_printed reply rest = rw (status_printed reply.code, maybe_change_printed reply.change) refl
