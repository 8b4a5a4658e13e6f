-- The parts of a mail's printed form, and what is printed as a mail.
use Rattle.std.specs.Prelude.{ℕ, List, ◌++◌, codes}
use Rattle.ofx_types.specs.Calendar.{IsMoment}
use Rattle.ofx_types.specs.Sheet.{element}
use Rattle.ofx_types.specs.declared.mail.MailText.{MailText}
use Rattle.ofx_types.specs.declared.transfer.Deed.{Deed}
use Rattle.ofx_types.specs.declared.transfer.Deed.TheVariants.{Transfer, ModifyTransfer, CancelTransfer, Model, ModifyModel, CancelModel, BankMail, Mail}
use Rattle.ofx_types.specs.declared.transfer.Change.{Change}
use Rattle.ofx_types.specs.declared.transfer.Change.TheVariants.{NewTransfer, SetTransfer, DropTransfer, NewModel, SetModel, DropModel, NewMail}

-- What it is about and its message, which is plain text without images.
abbrev pub message : MailText → List ℕ
message text =
    element (codes "SUBJECT") text.subject
    ++ (element (codes "MSGBODY") text.body ++ (element (codes "INCIMAGES") (codes "N") ++ element (codes "USEHTML") (codes "N")))

-- A mail that was written in the years 1900 to 9999. No other deed is printed as a mail.
abbrev pub IsPrintableMail : Deed → Type 0
IsPrintableMail (BankMail account text) = IsMoment text.created.0
IsPrintableMail (Mail text) = IsMoment text.created.0
IsPrintableMail (Transfer info) = ⊥
IsPrintableMail (ModifyTransfer id info) = ⊥
IsPrintableMail (CancelTransfer id) = ⊥
IsPrintableMail (Model recur info) = ⊥
IsPrintableMail (ModifyModel id recur info pending) = ⊥
IsPrintableMail (CancelModel id pending) = ⊥

-- a mail that came in or went out
abbrev pub IsMail : Change → Type 0
IsMail (NewMail row) = Unit {0}
IsMail (NewTransfer row) = ⊥
IsMail (SetTransfer row) = ⊥
IsMail (DropTransfer id) = ⊥
IsMail (NewModel row) = ⊥
IsMail (SetModel row pending) = ⊥
IsMail (DropModel id pending) = ⊥
