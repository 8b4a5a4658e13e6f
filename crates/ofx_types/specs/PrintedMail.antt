-- The printed form of a mail.
use Rattle.std.specs.Prelude.{ℕ, List, [], ◌++◌, codes, Option, None, Some}
use Rattle.ofx_types.specs.Sheet.{element, aggregate}
use Rattle.ofx_types.specs.DateForm.{moment_text}
use Rattle.ofx_types.specs.CommonText.{account_from}
use Rattle.ofx_types.specs.declared.account.AcctName.{AcctName}
use Rattle.ofx_types.specs.declared.mail.MailText.{MailText}
use Rattle.ofx_types.specs.declared.mail.MailRow.{MailRow}

-- A mail is plain text: no images are asked for, and its body has no HTML.
unfoldable pub mail_text : List ℕ → MailText → List ℕ
mail_text user text = aggregate (codes "MAIL")
    (element (codes "USERID") user
    ++ (element (codes "DTCREATED") (moment_text text.created.0)
    ++ (element (codes "FROM") text.sender
    ++ (element (codes "TO") text.target
    ++ (element (codes "SUBJECT") text.subject
    ++ (element (codes "MSGBODY") text.body
    ++ (element (codes "INCIMAGES") (codes "N") ++ element (codes "USEHTML") (codes "N"))))))))

-- In a request USERID has the text of FROM.
unfoldable pub bank_mail_text : AcctName → MailText → List ℕ
bank_mail_text account text = aggregate (codes "BANKMAILRQ") (account_from account ++ mail_text text.sender text)

unfoldable pub plain_mail_text : MailText → List ℕ
plain_mail_text text = aggregate (codes "MAILRQ") (mail_text text.sender text)

-- In a reply it is the customer's name.
unfoldable pub mail_row_about : Option AcctName → MailRow → List ℕ
mail_row_about None row = aggregate (codes "MAILRS") (mail_text row.user row.mail)
mail_row_about (Some account) row = aggregate (codes "BANKMAILRS") (account_from account ++ mail_text row.user row.mail)

abbrev pub mail_row_text : MailRow → List ℕ
mail_row_text row = mail_row_about row.about row
