-- What is refused of a transfer and of a recurring transfer, of their changes and of their cancellations, and of mail, and
-- with which code.
use Rattle.std.specs.Prelude.{ℕ, codes, Bool, true, false, not, ◌&&◌, ◌==◌, if◌then◌else◌, ℤ, pos, int_le, int_lt, List, [], ◌∷◌, Option, None, Some, is_some, unwrap_or}
use Rattle.std.specs.Str.{bytes_eq}
use Rattle.ofx_types.specs.AccountForm.{same_account}
use Rattle.ofx_types.specs.declared.account.AcctName.{AcctName}
use Rattle.ofx_types.specs.declared.number.AcctId.{AcctId}
use Rattle.ofx_types.specs.declared.number.UserId.{UserId}
use Rattle.ofx_types.specs.declared.number.Day.{Day}
use Rattle.ofx_types.specs.declared.transfer.XferCode.{XferCode}
use Rattle.ofx_types.specs.declared.transfer.XferCode.TheVariants.{Waiting, Posted, NoFunds, Cancelled}
use Rattle.ofx_types.specs.declared.transfer.XferInfo.{XferInfo}
use Rattle.ofx_types.specs.declared.transfer.TransferRow.{TransferRow}
use Rattle.ofx_types.specs.declared.recurring.ModelRow.{ModelRow}
use Rattle.ofx_types.specs.declared.mail.MailText.{MailText}
use Rattle.bank_model.specs.declared.setup.Setup.{Setup}
use Rattle.bank_model.specs.SetupLookups.{account_of, is_owner}
use Rattle.bank_model.specs.Ledger.{is_covered}

-- A refusal holds or doesn't, and has a code.
pub record Refusal : Type 0 where
  pub holds : Bool
  pub code : ℕ

abbrev pub refused : ℕ → Bool → Refusal
refused code holds = record { holds = holds; code = code }

-- The first refusal that holds is the code. Where none holds it is 0.
abbrev pub first_of : List Refusal → ℕ
first_of [] = 0
first_of (refusal ∷ more) = if refusal.holds then refusal.code else first_of more

-- ---- accounts

-- Where a deed is in the synchronisation of an account, that account is the user's only one.
abbrev pub is_only : Option AcctId → AcctId → Bool
is_only None account = true
is_only (Some only) account = only.0 == account.0

abbrev pub is_own_account : Setup → UserId → Option AcctId → Option AcctId → Bool
is_own_account setup user only None = false
is_own_account setup user only (Some account) = is_owner setup user account && is_only only account

-- The account of this name is the user's.
abbrev pub is_own : Setup → UserId → Option AcctId → AcctName → Bool
is_own setup user only name = is_own_account setup user only (account_of setup name)

-- The destination is an account of the bank, and not the source.
abbrev pub is_destination : Setup → XferInfo → Bool
is_destination setup info = is_some (account_of setup info.to) && not (same_account info.to info.from)

-- ---- amounts and days

abbrev pub is_positive : XferInfo → Bool
is_positive info = int_lt (pos 0) info.amount.0

-- A transfer without a day is due on the business day.
abbrev pub due_day : XferInfo → Day → Day
due_day info day = unwrap_or info.due day

-- It is due on or before the business day.
abbrev pub is_due : XferInfo → Day → Bool
is_due info day = int_le (due_day info day).0 day.0

-- There is a day, and it is after the business day.
abbrev pub is_after : Option Day → Day → Bool
is_after None day = false
is_after (Some due) day = int_lt day.0 due.0

-- ---- the table of refusals, each ask's in order

-- A transfer: the source isn't the user's; the destination isn't an account of the bank, or is the source; the amount
-- isn't positive; it is due and there is no cover.
unfoldable pub transfer_code : Setup → UserId → Option AcctId → XferInfo → Day → ℤ → ℕ
transfer_code setup user only info day balance = first_of (
    refused 2006 (not (is_own setup user only info.from))
    ∷ refused 2009 (not (is_destination setup info))
    ∷ refused 2012 (not (is_positive info))
    ∷ refused 10504 (is_due info day && not (is_covered info.amount.0 balance))
    ∷ [])

abbrev pub is_cancelled : XferCode → Bool
is_cancelled Waiting = false
is_cancelled Posted = false
is_cancelled NoFunds = false
is_cancelled Cancelled = true

-- posted, or closed without funds
abbrev pub is_closed : XferCode → Bool
is_closed Waiting = false
is_closed Posted = true
is_closed NoFunds = true
is_closed Cancelled = false

-- The refusals that a change and a cancellation share: there is no transfer with this id out of an account of the user;
-- it is cancelled; it is posted or closed without funds. After them come those of the deed itself.
abbrev pub row_code : Setup → UserId → Option AcctId → Option TransferRow → (TransferRow → List Refusal) → ℕ
row_code setup user only None more = 2018
row_code setup user only (Some row) more = first_of (
    refused 2018 (not (is_own setup user only row.from))
    ∷ refused 2017 (is_cancelled row.code)
    ∷ refused 2016 (is_closed row.code)
    ∷ more row)

-- A change: then the source differs from the transfer's; the destination isn't an account of the bank, or is the source;
-- the amount isn't positive; the day is absent or not after the business day.
unfoldable pub modify_code : Setup → UserId → Option AcctId → Option TransferRow → XferInfo → Day → ℕ
modify_code setup user only row info day = row_code setup user only row (λ found.
    refused 2006 (not (same_account info.from found.from))
    ∷ refused 2009 (not (is_destination setup info))
    ∷ refused 2012 (not (is_positive info))
    ∷ refused 2014 (not (is_after info.due day))
    ∷ [])

-- A cancellation has no more.
unfoldable pub cancel_code : Setup → UserId → Option AcctId → Option TransferRow → ℕ
cancel_code setup user only row = row_code setup user only row (λ found. [])

-- ---- recurring transfers

-- A recurring transfer: the source isn't the user's; the destination isn't an account of the bank, or is the source; the
-- amount isn't positive; the first day is absent or not after the business day.
unfoldable pub model_code : Setup → UserId → Option AcctId → XferInfo → Day → ℕ
model_code setup user only info day = first_of (
    refused 2006 (not (is_own setup user only info.from))
    ∷ refused 2009 (not (is_destination setup info))
    ∷ refused 2012 (not (is_positive info))
    ∷ refused 2014 (not (is_after info.due day))
    ∷ [])

-- The refusals that its change and its cancellation share: there is no recurring transfer with this id out of an account
-- of the user; it is cancelled. After them come those of the deed itself.
abbrev pub model_row_code : Setup → UserId → Option AcctId → Option ModelRow → Bool → (ModelRow → List Refusal) → ℕ
model_row_code setup user only None cancelled more = 10518
model_row_code setup user only (Some row) cancelled more = first_of (
    refused 10518 (not (is_own setup user only row.from))
    ∷ refused 10509 cancelled
    ∷ more row)

-- A change: then the source differs from that of the recurring transfer; the destination isn't an account of the bank, or
-- is the source; the amount isn't positive; the first day is absent or not after the business day.
unfoldable pub model_modify_code : Setup → UserId → Option AcctId → Option ModelRow → Bool → XferInfo → Day → ℕ
model_modify_code setup user only row cancelled info day = model_row_code setup user only row cancelled (λ found.
    refused 2006 (not (same_account info.from found.from))
    ∷ refused 2009 (not (is_destination setup info))
    ∷ refused 2012 (not (is_positive info))
    ∷ refused 2014 (not (is_after info.due day))
    ∷ [])

-- A cancellation has no more.
unfoldable pub model_cancel_code : Setup → UserId → Option AcctId → Option ModelRow → Bool → ℕ
model_cancel_code setup user only row cancelled = model_row_code setup user only row cancelled (λ found. [])

-- ---- mail

-- The bank takes mail to `BANK`.
abbrev pub is_to_bank : MailText → Bool
is_to_bank mail = bytes_eq mail.target (codes "BANK")

-- A mail about an account: the account isn't the user's; it isn't to the bank.
unfoldable pub bank_mail_code : Setup → UserId → Option AcctId → AcctName → MailText → ℕ
bank_mail_code setup user only account mail = first_of (
    refused 2003 (not (is_own setup user only account))
    ∷ refused 16501 (not (is_to_bank mail))
    ∷ [])

-- Any other mail: it isn't to the bank.
unfoldable pub mail_code : MailText → ℕ
mail_code mail = first_of (refused 16501 (not (is_to_bank mail)) ∷ [])
