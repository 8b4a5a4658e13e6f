-- Reading the parts of what is asked: accounts, series, what is said of a transfer, and mails.
use Rattle.std.specs.Prelude.{ℕ, zero, suc, nat_lt, nat_le, ◌==◌, ◌&&◌, ◌||◌, Bool, true, false, if◌then◌else◌, List, [], ◌∷◌, Option, None, Some, Result, Ok, Err}
use Rattle.ofx_types.specs.SyncForm.{object_family}
use Rattle.ofx_types.specs.PrintedFile.{is_mail_ask}
use Rattle.ofx_types.specs.declared.account.AcctKind.{AcctKind}
use Rattle.ofx_types.specs.declared.account.AcctKind.TheVariants.{Checking, Savings, MoneyMarket, CreditLine}
use Rattle.ofx_types.specs.declared.account.AcctName.{AcctName}
pub use Rattle.ofx_types.specs.RecurringReading.{freqs}
use Rattle.ofx_types.specs.declared.recurring.Recur.{Recur}
use Rattle.ofx_types.specs.declared.mail.MailText.{MailText}
use Rattle.ofx_types.specs.declared.transfer.XferInfo.{XferInfo}
use Rattle.ofx_types.specs.declared.transfer.Deed.{Deed}
use Rattle.ofx_types.specs.declared.transfer.Deed.TheVariants as deeds
use Rattle.ofx_types.specs.declared.transfer.Family.{Family}
use Rattle.ofx_types.specs.declared.transfer.Family.TheVariants as families
use Rattle.ofx_types.specs.declared.sync.ObjectName.{ObjectName}
use Rattle.ofx_types.specs.declared.sync.ObjectName.TheVariants as objects
use Rattle.ofx_types.specs.declared.sync.SyncKind.{SyncKind}
use Rattle.ofx_types.specs.declared.sync.SyncKind.TheVariants.{After, TokenOnly, Refresh}
use Rattle.ofx_types.specs.declared.sync.SyncAsk.{SyncAsk}
use Rattle.ofx_types.specs.declared.request.Period.{Period}
use Rattle.ofx_types.specs.declared.request.Ask.{Ask}
use Rattle.ofx_types.specs.declared.request.Ask.TheVariants as asks
use Rattle.record_fields.specs.FieldReading.{◌>>=◌, u8_at, u16_at, count_at, flag_at, choice_at, optional_at, id_at, amount_at, moment_at, day_at, filled_text_at, given_uid_at}

-- ---- parts of deeds

abbrev pub account_kinds : List AcctKind
account_kinds = Checking ∷ Savings ∷ MoneyMarket ∷ CreditLine ∷ []

unfoldable pub acct_at : List ℕ → ℕ → Result (AcctName × ℕ) ℕ
acct_at rec at = do
  bank ← filled_text_at 32 rec at
  number ← filled_text_at 32 rec bank.1
  kind ← choice_at account_kinds rec number.1
  Ok (record { bank = bank.0; number = number.0; kind = kind.0 }, kind.1)

unfoldable pub recur_at : List ℕ → ℕ → Result (Recur × ℕ) ℕ
recur_at rec at = do
  count ← optional_at count_at rec at
  freq ← choice_at freqs rec count.1
  Ok (record { count = count.0; freq = freq.0 }, freq.1)

unfoldable pub info_at : List ℕ → ℕ → Result (XferInfo × ℕ) ℕ
info_at rec at = do
  from ← acct_at rec at
  to ← acct_at rec from.1
  amount ← amount_at rec to.1
  due ← optional_at day_at rec amount.1
  Ok (record { from = from.0; to = to.0; amount = amount.0; due = due.0 }, due.1)

unfoldable pub mail_at : List ℕ → ℕ → Result (MailText × ℕ) ℕ
mail_at rec at = do
  created ← moment_at rec at
  sender ← filled_text_at 32 rec created.1
  target ← filled_text_at 32 rec sender.1
  subject ← filled_text_at 64 rec target.1
  body ← filled_text_at 10000 rec subject.1
  Ok (record { created = created.0; sender = sender.0; target = target.0; subject = subject.0; body = body.0 }, body.1)
