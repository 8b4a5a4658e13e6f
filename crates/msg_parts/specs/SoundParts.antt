-- What all messages have in common and reads back as it was written: values within the limits of their elements.
use Rattle.std.specs.Prelude.{◌≤◌, Option, None, Some, unsigned_abs}
use Rattle.ofx_types.specs.Calendar.{IsMoment}
pub use Rattle.ofx_types.specs.Bounds.{IsTextWithin}
use Rattle.ofx_types.specs.declared.account.AcctName.{AcctName}
use Rattle.ofx_types.specs.declared.number.Cents.{Cents}
use Rattle.ofx_types.specs.declared.number.Moment.{Moment}
use Rattle.ofx_types.specs.declared.transfer.Change.{Change}
use Rattle.ofx_types.specs.declared.transfer.Change.TheVariants.{NewTransfer, SetTransfer, DropTransfer, NewModel, SetModel, DropModel, NewMail}
use Rattle.ofx_types.specs.declared.transfer.Family.{Family}
use Rattle.ofx_types.specs.declared.transfer.Family.TheVariants.{Intra, RecIntra, BankMail, Mail}

-- a moment of the years 1900 to 9999
abbrev pub IsSoundMoment : Moment → Type 0
IsSoundMoment moment = IsMoment moment.0

-- an amount of at most 99,999,999,999.99
abbrev pub IsSoundAmount : Cents → Type 0
IsSoundAmount amount = unsigned_abs amount.0 ≤ 9999999999999

pub record IsSoundAccount (account : AcctName) : Type 0 where
  pub bank : IsTextWithin 32 account.bank
  pub number : IsTextWithin 32 account.number

-- ---- deeds

-- Mail about an account has a family of its own.
abbrev pub mail_family : Option AcctName → Family
mail_family None = Mail
mail_family (Some account) = BankMail

-- what a change belongs to
abbrev pub family_of_change : Change → Family
family_of_change (NewTransfer row) = Intra
family_of_change (SetTransfer row) = Intra
family_of_change (DropTransfer id) = Intra
family_of_change (NewModel row) = RecIntra
family_of_change (SetModel row pending) = RecIntra
family_of_change (DropModel id pending) = RecIntra
family_of_change (NewMail row) = mail_family row.about
