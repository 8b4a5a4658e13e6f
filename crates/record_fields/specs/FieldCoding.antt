-- The coding of single fields in a kept record: numbers, flags, texts, uids, accounts, series, transfers and mails.
use Rattle.std.specs.Prelude.{ℕ, ℤ, Bool, true, false, List, [], ◌∷◌, ◌++◌, length, Option, None, Some}
use Rattle.std.specs.List.{flat_map}
use Rattle.std.specs.Int.{w16, w32, w64, to_be_bytes, cast_unsigned}
use Rattle.ofx_types.specs.declared.number.Moment.{Moment}
use Rattle.ofx_types.specs.declared.number.Day.{Day}
pub use Rattle.ofx_types.specs.AccountForm.{kind_number}
use Rattle.ofx_types.specs.declared.account.AcctName.{AcctName}
use Rattle.ofx_types.specs.declared.recurring.Freq.{Freq}
use Rattle.ofx_types.specs.declared.recurring.Freq.TheVariants.{Weekly, Biweekly, TwiceMonthly, Monthly, FourWeeks, Bimonthly, Quarterly, Semiannually, Annually}
use Rattle.ofx_types.specs.declared.recurring.Recur.{Recur}
use Rattle.ofx_types.specs.declared.mail.MailText.{MailText}
use Rattle.ofx_types.specs.declared.transfer.XferInfo.{XferInfo}
use Rattle.ofx_types.specs.declared.transfer.Deed.{Deed}
use Rattle.ofx_types.specs.declared.transfer.Deed.TheVariants.{Transfer, ModifyTransfer, CancelTransfer, Model, ModifyModel, CancelModel, BankMail, Mail}
use Rattle.ofx_types.specs.declared.sync.ObjectName.{ObjectName}
use Rattle.ofx_types.specs.declared.sync.ObjectName.TheVariants as objects
use Rattle.ofx_types.specs.declared.sync.SyncKind.{SyncKind}
use Rattle.ofx_types.specs.declared.sync.SyncKind.TheVariants.{After, TokenOnly, Refresh}
use Rattle.ofx_types.specs.declared.sync.SyncAsk.{SyncAsk}
use Rattle.ofx_types.specs.declared.request.Period.{Period}
use Rattle.ofx_types.specs.declared.request.Ask.{Ask}
use Rattle.ofx_types.specs.declared.request.Ask.TheVariants.{Statement, One, Sync}
use Rattle.ofx_types.specs.declared.request.RequestFile.{RequestFile}
use Rattle.bank_model.specs.declared.event.Event.{Event}
use Rattle.bank_model.specs.declared.event.Event.TheVariants.{File, Post, Spawn, Letter}

-- ---- fields

-- Numbers are big-endian. One with a sign is in two's complement.
abbrev pub u8_bytes : ℕ → List ℕ
u8_bytes n = n ∷ []

abbrev pub u16_bytes : ℕ → List ℕ
u16_bytes n = to_be_bytes w16 n

abbrev pub u32_bytes : ℕ → List ℕ
u32_bytes n = to_be_bytes w32 n

abbrev pub u64_bytes : ℕ → List ℕ
u64_bytes n = to_be_bytes w64 n

abbrev pub i32_bytes : ℤ → List ℕ
i32_bytes z = to_be_bytes w32 (cast_unsigned w32 z)

abbrev pub i64_bytes : ℤ → List ℕ
i64_bytes z = to_be_bytes w64 (cast_unsigned w64 z)

-- A flag is one byte.
abbrev pub flag_bytes : Bool → List ℕ
flag_bytes false = 0 ∷ []
flag_bytes true = 1 ∷ []

-- A text is its length in two bytes, and its bytes.
unfoldable pub text_bytes : List ℕ → List ℕ
text_bytes text = u16_bytes (length text) ++ text

-- A uid is its length in one byte, and its bytes.
unfoldable pub uid_bytes : List ℕ → List ℕ
uid_bytes uid = length uid ∷ uid

-- No file uid is the length 0.
abbrev pub file_uid_bytes : Option (List ℕ) → List ℕ
file_uid_bytes None = 0 ∷ []
file_uid_bytes (Some uid) = uid_bytes uid

-- What may be absent is 0, or 1 and what it is.
abbrev pub optional_bytes : {A : Type 0} → (A → List ℕ) → Option A → List ℕ
optional_bytes bytes None = 0 ∷ []
optional_bytes bytes (Some x) = 1 ∷ bytes x

-- A list is its number of items in two bytes, and the items.
abbrev pub list_bytes : {A : Type 0} → (A → List ℕ) → List A → List ℕ
list_bytes bytes items = u16_bytes (length items) ++ flat_map bytes items

-- ---- parts of what is asked

-- the bank, the number and the kind of an account
unfoldable pub acct_bytes : AcctName → List ℕ
acct_bytes account = text_bytes account.bank ++ text_bytes account.number ++ kind_number account.kind ∷ []

abbrev pub freq_number : Freq → ℕ
freq_number Weekly = 0
freq_number Biweekly = 1
freq_number TwiceMonthly = 2
freq_number Monthly = 3
freq_number FourWeeks = 4
freq_number Bimonthly = 5
freq_number Quarterly = 6
freq_number Semiannually = 7
freq_number Annually = 8

-- how many transfers there are, or no end, and how often one is made
unfoldable pub recur_bytes : Recur → List ℕ
recur_bytes recur = optional_bytes u16_bytes recur.count ++ freq_number recur.freq ∷ []

abbrev pub moment_bytes : Moment → List ℕ
moment_bytes at = i64_bytes at.0

abbrev pub day_bytes : Day → List ℕ
day_bytes day = i32_bytes day.0

-- source, destination, amount in cents, and the day on which it is due
unfoldable pub info_bytes : XferInfo → List ℕ
info_bytes info = acct_bytes info.from ++ acct_bytes info.to ++ i64_bytes info.amount.0 ++ optional_bytes day_bytes info.due

-- when it was written, by whom and to whom, what it is about, and what it says
unfoldable pub mail_bytes : MailText → List ℕ
mail_bytes mail =
    i64_bytes mail.created.0 ++ text_bytes mail.sender ++ text_bytes mail.target ++ text_bytes mail.subject ++ text_bytes mail.body
