-- Mail as documents of a sheet.
use Rattle.std.specs.Prelude.{ℕ, List, codes, Option, None, Some}
use Rattle.ofx_types.specs.DateForm.{moment_text}
use Rattle.ofx_types.specs.declared.account.AcctName.{AcctName}
use Rattle.ofx_types.specs.declared.mail.MailText.{MailText}
use Rattle.ofx_tree.specs.Documents.{Documents, empty, leaf, branch}
use Rattle.msg_parts.specs.PartDocuments.{account_documents}

-- what is in MAIL
abbrev pub mail_documents : List ℕ → MailText → Documents
mail_documents user text =
    leaf (codes "USERID") user
    (leaf (codes "DTCREATED") (moment_text text.created.0)
    (leaf (codes "FROM") text.sender
    (leaf (codes "TO") text.target
    (leaf (codes "SUBJECT") text.subject
    (leaf (codes "MSGBODY") text.body
    (leaf (codes "INCIMAGES") (codes "N") (leaf (codes "USEHTML") (codes "N") empty)))))))

-- what is in MAILRQ and MAILRS, and with an account in BANKMAILRQ and BANKMAILRS
abbrev pub mail_about : Option AcctName → List ℕ → MailText → Documents
mail_about None user text = branch (codes "MAIL") (mail_documents user text) empty
mail_about (Some account) user text =
    branch (codes "BANKACCTFROM") (account_documents account) (branch (codes "MAIL") (mail_documents user text) empty)

-- the reply of a mail
abbrev pub mail_reply_name : Option AcctName → List ℕ
mail_reply_name None = codes "MAILRS"
mail_reply_name (Some account) = codes "BANKMAILRS"
