-- The names of the transactions of deeds, and of what is there in them, are names of aggregates.
use Rattle.std.proofs.Common.{codes, Option, None, Some, refl}
use Rattle.ofx_types.specs.DeedForm.{request_name, reply_name}
use Rattle.ofx_types.specs.declared.account.AcctName.{AcctName}
use Rattle.ofx_types.specs.declared.transfer.Deed.{Deed}
use Rattle.ofx_types.specs.declared.transfer.Deed.TheVariants.{Transfer, ModifyTransfer, CancelTransfer, Model, ModifyModel, CancelModel}
use Rattle.ofx_types.specs.declared.transfer.Change.{Change}
use Rattle.ofx_types.specs.declared.transfer.Change.TheVariants.{NewTransfer, SetTransfer, DropTransfer, NewModel, SetModel, DropModel, NewMail}
use Rattle.ofx_types.specs.declared.transfer.Family.{Family}
use Rattle.ofx_types.specs.declared.transfer.Family.TheVariants.{Intra, RecIntra, BankMail, Mail}
use Rattle.ofx_types.specs.declared.transfer.Deed.TheVariants as kinds
use Rattle.ofx_tree.specs.Documents.{IsBranch}
use Rattle.msg_parts.specs.MailDocuments.{mail_reply_name}
use Rattle.msg_parts.specs.DeedDocuments.{asked_name, change_name}
use Rattle.msg_parts.proofs.Lawful.{is_branch}

-- ---- they are lawful

pub request_branch : (deed : Deed) → IsBranch (asked_name deed)
request_branch (Transfer info) = is_branch (codes "INTRARQ") refl refl refl
request_branch (ModifyTransfer id info) = is_branch (codes "INTRAMODRQ") refl refl refl
request_branch (CancelTransfer id) = is_branch (codes "INTRACANRQ") refl refl refl
request_branch (Model recur info) = is_branch (codes "RECINTRARQ") refl refl refl
request_branch (ModifyModel id recur info pending) = is_branch (codes "RECINTRAMODRQ") refl refl refl
request_branch (CancelModel id pending) = is_branch (codes "RECINTRACANRQ") refl refl refl
request_branch (kinds.BankMail account mail) = is_branch (codes "BANKMAILRQ") refl refl refl
request_branch (kinds.Mail mail) = is_branch (codes "MAILRQ") refl refl refl

pub transaction_branch : (family : Family) → IsBranch (request_name family)
transaction_branch Intra = is_branch (codes "INTRATRNRQ") refl refl refl
transaction_branch RecIntra = is_branch (codes "RECINTRATRNRQ") refl refl refl
transaction_branch BankMail = is_branch (codes "BANKMAILTRNRQ") refl refl refl
transaction_branch Mail = is_branch (codes "MAILTRNRQ") refl refl refl

mail_reply_branch : (about : Option AcctName) → IsBranch (mail_reply_name about)
mail_reply_branch None = is_branch (codes "MAILRS") refl refl refl
mail_reply_branch (Some account) = is_branch (codes "BANKMAILRS") refl refl refl

pub change_branch : (change : Change) → IsBranch (change_name change)
change_branch (NewTransfer row) = is_branch (codes "INTRARS") refl refl refl
change_branch (SetTransfer row) = is_branch (codes "INTRAMODRS") refl refl refl
change_branch (DropTransfer id) = is_branch (codes "INTRACANRS") refl refl refl
change_branch (NewModel row) = is_branch (codes "RECINTRARS") refl refl refl
change_branch (SetModel row pending) = is_branch (codes "RECINTRAMODRS") refl refl refl
change_branch (DropModel id pending) = is_branch (codes "RECINTRACANRS") refl refl refl
change_branch (NewMail row) = mail_reply_branch row.about

pub answer_branch : (family : Family) → IsBranch (reply_name family)
answer_branch Intra = is_branch (codes "INTRATRNRS") refl refl refl
answer_branch RecIntra = is_branch (codes "RECINTRATRNRS") refl refl refl
answer_branch BankMail = is_branch (codes "BANKMAILTRNRS") refl refl refl
answer_branch Mail = is_branch (codes "MAILTRNRS") refl refl refl
