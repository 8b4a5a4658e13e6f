-- Deeds and changes that the calls for transfers print. Mail is read and written by calls of its own.
use Rattle.std.specs.Option.{IfSome}
use Rattle.ofx_types.specs.Calendar.{IsDay}
use Rattle.ofx_types.specs.declared.number.Day.{Day}
use Rattle.ofx_types.specs.declared.transfer.Deed.{Deed}
use Rattle.ofx_types.specs.declared.transfer.Deed.TheVariants.{Transfer, ModifyTransfer, CancelTransfer, Model, ModifyModel, CancelModel, BankMail, Mail}
use Rattle.ofx_types.specs.declared.transfer.Change.{Change}
use Rattle.ofx_types.specs.declared.transfer.Change.TheVariants.{NewTransfer, SetTransfer, DropTransfer, NewModel, SetModel, DropModel, NewMail}

-- A transfer or a recurring transfer, whose due day, if one is said, lies in the years 1900 to 9999.
abbrev pub IsPrintableDeed : Deed → Type 0
IsPrintableDeed (Transfer info) = IfSome info.due (λ (day : Day). IsDay day.0)
IsPrintableDeed (ModifyTransfer id info) = IfSome info.due (λ (day : Day). IsDay day.0)
IsPrintableDeed (CancelTransfer id) = Unit {0}
IsPrintableDeed (Model recur info) = IfSome info.due (λ (day : Day). IsDay day.0)
IsPrintableDeed (ModifyModel id recur info pending) = IfSome info.due (λ (day : Day). IsDay day.0)
IsPrintableDeed (CancelModel id pending) = Unit {0}
IsPrintableDeed (BankMail account mail) = ⊥
IsPrintableDeed (Mail mail) = ⊥

-- a change of a transfer or of a recurring transfer
abbrev pub IsNoMail : Change → Type 0
IsNoMail (NewTransfer row) = Unit {0}
IsNoMail (SetTransfer row) = Unit {0}
IsNoMail (DropTransfer id) = Unit {0}
IsNoMail (NewModel row) = Unit {0}
IsNoMail (SetModel row pending) = Unit {0}
IsNoMail (DropModel id pending) = Unit {0}
IsNoMail (NewMail row) = ⊥
