-- How the forms of mail are read: form by form, the named children of each in order, and the first fault.
use Rattle.std.specs.Prelude.{ℕ, ◌==◌, List, codes, Option, None, Some, Result, Ok, Err, if◌then◌else◌}
use Rattle.ofx_types.specs.Nodes.{Item}
use Rattle.ofx_types.specs.FormWords.{has_name, ◌>>=◌, one, text_in, moment_in}
use Rattle.ofx_types.specs.RequestReading.{trnuid_of, account_of}
use Rattle.ofx_types.specs.ReplyReading.{status_of}
use Rattle.ofx_types.specs.declared.fault.TreeFault.{TreeFault}
use Rattle.ofx_types.specs.declared.fault.TreeFault.TheVariants.{Value}
use Rattle.ofx_types.specs.declared.account.AcctName.{AcctName}
use Rattle.ofx_types.specs.declared.mail.MailText.{MailText}
use Rattle.ofx_types.specs.declared.mail.MailRow.{MailRow}
use Rattle.ofx_types.specs.declared.transfer.Deed.{Deed}
use Rattle.ofx_types.specs.declared.transfer.Deed.TheVariants as deeds
use Rattle.ofx_types.specs.declared.transfer.Change.{Change}
use Rattle.ofx_types.specs.declared.transfer.Change.TheVariants.{NewMail}
use Rattle.ofx_types.specs.declared.transfer.Family.{Family}
use Rattle.ofx_types.specs.declared.transfer.Family.TheVariants as families
use Rattle.ofx_types.specs.declared.transfer.DeedReply.{DeedReply}

unfoldable pub account_in : Item → Result AcctName TreeFault
account_in parent = one (codes "BANKACCTFROM") parent >>= account_of

unfoldable pub mail_text_of : Item → Result MailText TreeFault
mail_text_of mail = do
  created ← moment_in (codes "DTCREATED") mail
  sender ← text_in (codes "FROM") 32 mail
  target ← text_in (codes "TO") 32 mail
  subject ← text_in (codes "SUBJECT") 64 mail
  body ← text_in (codes "MSGBODY") 10000 mail
  Ok (record { created = created; sender = sender; target = target; subject = subject; body = body })

unfoldable pub mail_in : Item → Result MailText TreeFault
mail_in parent = one (codes "MAIL") parent >>= mail_text_of

-- the user's name and the mail; the name comes first
unfoldable pub mail_of_user : Item → Result (List ℕ × MailText) TreeFault
mail_of_user mail = do
  user ← text_in (codes "USERID") 32 mail
  text ← mail_text_of mail
  Ok (user, text)

unfoldable pub mail_of_user_in : Item → Result (List ℕ × MailText) TreeFault
mail_of_user_in parent = one (codes "MAIL") parent >>= mail_of_user

-- ---- requests

unfoldable pub bank_mail_of : Item → Result Deed TreeFault
bank_mail_of transaction = do
  request ← one (codes "BANKMAILRQ") transaction
  account ← account_in request
  text ← mail_in request
  Ok (deeds.BankMail account text)

unfoldable pub plain_mail_of : Item → Result Deed TreeFault
plain_mail_of transaction = do
  request ← one (codes "MAILRQ") transaction
  text ← mail_in request
  Ok (deeds.Mail text)

-- A transaction of another name is no mail's: the fault is at its own offset.
unfoldable pub mail_request_of : Item → Result Deed TreeFault
mail_request_of transaction =
    if has_name (codes "BANKMAILTRNRQ") transaction then bank_mail_of transaction
    else (if has_name (codes "MAILTRNRQ") transaction then plain_mail_of transaction else Err (Value transaction.node.offset))

unfoldable pub mail_deed_of : Item → Result (List ℕ × Deed) TreeFault
mail_deed_of transaction = do
  trnuid ← trnuid_of transaction
  deed ← mail_request_of transaction
  Ok (trnuid, deed)

-- ---- replies

abbrev pub mail_family_reported : Item → Result Family TreeFault
mail_family_reported transaction =
    if has_name (codes "BANKMAILTRNRS") transaction then Ok families.BankMail
    else (if has_name (codes "MAILTRNRS") transaction then Ok families.Mail else Err (Value transaction.node.offset))

abbrev pub row_about : Option AcctName → List ℕ × MailText → MailRow
row_about about mail = record { about = about; user = mail.0; mail = mail.1 }

unfoldable pub bank_mail_row_of : Item → Result Change TreeFault
bank_mail_row_of transaction = do
  reply ← one (codes "BANKMAILRS") transaction
  account ← account_in reply
  mail ← mail_of_user_in reply
  Ok (NewMail (row_about (Some account) mail))

unfoldable pub plain_mail_row_of : Item → Result Change TreeFault
plain_mail_row_of transaction = do
  reply ← one (codes "MAILRS") transaction
  mail ← mail_of_user_in reply
  Ok (NewMail (row_about None mail))

unfoldable pub mail_row_of : Item → Result Change TreeFault
mail_row_of transaction =
    if has_name (codes "BANKMAILTRNRS") transaction then bank_mail_row_of transaction else plain_mail_row_of transaction

unfoldable pub mail_by_code : ℕ → Item → Result (Option Change) TreeFault
mail_by_code code transaction =
    if code == 0 then (mail_row_of transaction >>= λ change. Ok (Some change)) else Ok None

unfoldable pub mail_reply_of : Item → Result DeedReply TreeFault
mail_reply_of transaction = do
  family ← mail_family_reported transaction
  trnuid ← text_in (codes "TRNUID") 36 transaction
  code ← status_of transaction
  change ← mail_by_code code transaction
  Ok (record { trnuid = trnuid; family = family; code = code; change = change })
