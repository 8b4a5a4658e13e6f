-- Deeds of any kind, and synchronisations, that may be printed.
use Rattle.std.specs.Prelude.{ℕ, List}
use Rattle.std.specs.List.{AllByRecursion}
use Rattle.ofx_types.specs.Calendar.{IsMoment}
use Rattle.ofx_types.specs.declared.transfer.Deed.{Deed}
use Rattle.ofx_types.specs.declared.transfer.Deed.TheVariants.{Transfer, ModifyTransfer, CancelTransfer, Model, ModifyModel, CancelModel, BankMail, Mail}
use Rattle.ofx_types.specs.declared.sync.SyncAsk.{SyncAsk}
use Rattle.msg_deed.specs.PrintableDeeds.{IsPrintableDeed}

-- A mail was written in the years 1900 to 9999, and the due day of any other deed, if one is said, lies in them.
abbrev pub IsPrintableTransaction : Deed → Type 0
IsPrintableTransaction (BankMail account mail) = IsMoment mail.created.0
IsPrintableTransaction (Mail mail) = IsMoment mail.created.0
IsPrintableTransaction (Transfer info) = IsPrintableDeed (Transfer info)
IsPrintableTransaction (ModifyTransfer id info) = IsPrintableDeed (ModifyTransfer id info)
IsPrintableTransaction (CancelTransfer id) = IsPrintableDeed (CancelTransfer id)
IsPrintableTransaction (Model recur info) = IsPrintableDeed (Model recur info)
IsPrintableTransaction (ModifyModel id recur info pending) = IsPrintableDeed (ModifyModel id recur info pending)
IsPrintableTransaction (CancelModel id pending) = IsPrintableDeed (CancelModel id pending)

-- the same of a deed with its uid
abbrev pub IsPrintablePair : List ℕ × Deed → Type 0
IsPrintablePair deed = IsPrintableTransaction deed.1

-- Each deed of a synchronisation may be printed.
abbrev pub IsPrintableSync : SyncAsk → Type 0
IsPrintableSync ask = AllByRecursion IsPrintablePair ask.deeds
