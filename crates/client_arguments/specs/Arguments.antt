-- The arguments of the customer's program: `PORT STORE CLIENT USER PASS BANK` and a command.
use Rattle.std.specs.Prelude.{◌≡◌, ℕ, ◌<◌, List, [], ◌∷◌, codes, Option, None, Some}
use Rattle.ofx_types.specs.AccountForm.{kind_word}
use Rattle.ofx_types.specs.AmountForm.{IsAmount}
use Rattle.ofx_types.specs.Calendar.{IsDay, civil_of}
use Rattle.ofx_types.specs.DateForm.{date_text}
use Rattle.ofx_types.specs.NumberReading.{number_at}
use Rattle.ofx_types.specs.RecurringForm.{freq_word}
use Rattle.ofx_types.specs.declared.account.AcctName.{AcctName}
use Rattle.ofx_types.specs.declared.number.Cents.{Cents}
use Rattle.ofx_types.specs.declared.number.Day.{Day}
use Rattle.ofx_types.specs.declared.recurring.Recur.{Recur}
use Rattle.ofx_types.specs.declared.transfer.XferInfo.{XferInfo}
use Rattle.program_arguments.specs.Numbers.{IsNumber}
use Rattle.bank_model.specs.Sound.{IsTextWithin}
use Rattle.client_saved.specs.Bounds.{IsName}
use Rattle.client_core.specs.declared.wish.Wish.{Wish}
use Rattle.client_core.specs.declared.wish.Wish.TheVariants as wishes
use Rattle.client_arguments.specs.declared.order.Order.{Order}
use Rattle.client_arguments.specs.declared.verb.Verb.{Verb}
use Rattle.client_arguments.specs.declared.verb.Verb.TheVariants as verbs

-- ---- single words

-- An id has 1 to 10 digits.
abbrev pub IsIdWord : List ℕ → ℕ → Type 0
IsIdWord argument id = number_at 10 argument ≡ Some id

-- AMOUNT is an amount of dollars.
abbrev pub IsAmountWord : List ℕ → Cents → Type 0
IsAmountWord argument cents = IsAmount argument cents.0

-- DAY is `YYYYMMDD`, a date of the years 1900 to 9999.
pub record IsDayWord (argument : List ℕ) (day : Day) : Type 0 where
  pub within : IsDay day.0
  pub spelled : argument ≡ date_text (civil_of day.0)

-- NUMBER and KIND name an account of the bank that BANK names.
pub record IsAccount (bank number kind : List ℕ) (account : AcctName) : Type 0 where
  pub bank_is : account.bank ≡ bank
  pub number_is : account.number ≡ number
  pub number_fits : IsTextWithin 32 number
  pub kind_is : kind ≡ kind_word account.kind

-- ---- what follows the word of a command

-- `NUMBER KIND`
pub record IsAbout (bank : List ℕ) (arguments : List (List ℕ)) (account : AcctName) : Type 0 where
  pub number : List ℕ
  pub kind : List ℕ
  pub spelled : arguments ≡ number ∷ kind ∷ []
  pub account_is : IsAccount bank number kind account

-- `ID`
abbrev pub IsOfId : List (List ℕ) → ℕ → Type 0
IsOfId arguments id = (argument : List ℕ) × (arguments ≡ argument ∷ []) × IsIdWord argument id

-- The day of a transfer may be left out.
abbrev pub IsMaybeDay : List (List ℕ) → Option Day → Type 0
IsMaybeDay arguments None = arguments ≡ []
IsMaybeDay arguments (Some day) = (argument : List ℕ) × (arguments ≡ argument ∷ []) × IsDayWord argument day

-- the source, the destination and the amount that words say
pub record IsPayment (bank number kind other_number other_kind amount : List ℕ) (info : XferInfo) : Type 0 where
  pub from_is : IsAccount bank number kind info.from
  pub to_is : IsAccount bank other_number other_kind info.to
  pub amount_is : IsAmountWord amount info.amount

-- `NUMBER KIND NUMBER KIND AMOUNT [DAY]`
pub record IsTransfer (bank : List ℕ) (arguments : List (List ℕ)) (info : XferInfo) : Type 0 where
  pub number : List ℕ
  pub kind : List ℕ
  pub other_number : List ℕ
  pub other_kind : List ℕ
  pub amount : List ℕ
  pub more : List (List ℕ)
  pub spelled : arguments ≡ number ∷ kind ∷ other_number ∷ other_kind ∷ amount ∷ more
  pub payment : IsPayment bank number kind other_number other_kind amount info
  pub due_is : IsMaybeDay more info.due

-- `ID NUMBER KIND AMOUNT DAY`
pub record IsModify (bank : List ℕ) (arguments : List (List ℕ)) (id : ℕ) (to : AcctName) (cents : Cents) (day : Day) : Type 0 where
  pub argument : List ℕ
  pub number : List ℕ
  pub kind : List ℕ
  pub amount : List ℕ
  pub due : List ℕ
  pub spelled : arguments ≡ argument ∷ number ∷ kind ∷ amount ∷ due ∷ []
  pub id_is : IsIdWord argument id
  pub to_is : IsAccount bank number kind to
  pub amount_is : IsAmountWord amount cents
  pub day_is : IsDayWord due day

-- COUNT is 0 to 999, where 0 is no end.
abbrev pub IsCount : List ℕ → Option ℕ → Type 0
IsCount argument None = IsNumber 0 999 argument 0
IsCount argument (Some count) = (0 < count) × IsNumber 0 999 argument count

pub record IsRecur (freq count : List ℕ) (recur : Recur) : Type 0 where
  pub freq_is : freq ≡ freq_word recur.freq
  pub count_is : IsCount count recur.count

-- The first of a series has a day.
abbrev pub IsFirstDay : List ℕ → Option Day → Type 0
IsFirstDay argument None = ⊥
IsFirstDay argument (Some day) = IsDayWord argument day

-- `NUMBER KIND NUMBER KIND AMOUNT DAY FREQ COUNT`
pub record IsRepeat (bank : List ℕ) (arguments : List (List ℕ)) (recur : Recur) (info : XferInfo) : Type 0 where
  pub number : List ℕ
  pub kind : List ℕ
  pub other_number : List ℕ
  pub other_kind : List ℕ
  pub amount : List ℕ
  pub first : List ℕ
  pub freq : List ℕ
  pub count : List ℕ
  pub spelled : arguments ≡ number ∷ kind ∷ other_number ∷ other_kind ∷ amount ∷ first ∷ freq ∷ count ∷ []
  pub payment : IsPayment bank number kind other_number other_kind amount info
  pub due_is : IsFirstDay first info.due
  pub recur_is : IsRecur freq count recur

-- `SUBJECT BODY`
pub record IsMail (arguments : List (List ℕ)) (subject body : List ℕ) : Type 0 where
  pub spelled : arguments ≡ subject ∷ body ∷ []
  pub subject_fits : IsTextWithin 64 subject
  pub body_fits : IsTextWithin 10000 body

-- ---- commands

-- the arguments of the commands
abbrev pub verb_word : Verb → List ℕ
verb_word verbs.Sync = codes "sync"
verb_word verbs.Transfer = codes "transfer"
verb_word verbs.Modify = codes "modify"
verb_word verbs.Cancel = codes "cancel"
verb_word verbs.Repeat = codes "repeat"
verb_word verbs.Stop = codes "stop"
verb_word verbs.Mail = codes "mail"
verb_word verbs.Check = codes "check"
verb_word verbs.Show = codes "show"

-- what is wished by a command with these arguments after its own, at the bank that BANK names
abbrev pub IsWishedBy : List ℕ → Verb → List (List ℕ) → Wish → Type 0
IsWishedBy bank verbs.Sync arguments wish = (account : AcctName) × (wish ≡ wishes.Sync account) × IsAbout bank arguments account
IsWishedBy bank verbs.Transfer arguments wish = (info : XferInfo) × (wish ≡ wishes.Transfer info) × IsTransfer bank arguments info
IsWishedBy bank verbs.Modify arguments wish =
    (id : ℕ) × (to : AcctName) × (amount : Cents) × (due : Day) × (wish ≡ wishes.Modify id to amount due) × IsModify bank arguments id to amount due
IsWishedBy bank verbs.Cancel arguments wish = (id : ℕ) × (wish ≡ wishes.Cancel id) × IsOfId arguments id
IsWishedBy bank verbs.Repeat arguments wish =
    (recur : Recur) × (info : XferInfo) × (wish ≡ wishes.Repeat recur info) × IsRepeat bank arguments recur info
IsWishedBy bank verbs.Stop arguments wish = (id : ℕ) × (wish ≡ wishes.Stop id) × IsOfId arguments id
IsWishedBy bank verbs.Mail arguments wish = (subject : List ℕ) × (body : List ℕ) × (wish ≡ wishes.Mail subject body) × IsMail arguments subject body
IsWishedBy bank verbs.Check arguments wish = (account : AcctName) × (wish ≡ wishes.Check account) × IsAbout bank arguments account
IsWishedBy bank verbs.Show arguments wish = (wish ≡ wishes.Show) × (arguments ≡ [])

-- a command: its own word, and those after it
pub record IsWished (bank : List ℕ) (arguments : List (List ℕ)) (wish : Wish) : Type 0 where
  pub verb : Verb
  pub rest : List (List ℕ)
  pub spelled : arguments ≡ verb_word verb ∷ rest
  pub wish_is : IsWishedBy bank verb rest wish

-- ---- all arguments

-- The port is 0 to 65535, the client's name 1 to 12 letters and digits, the user's name and the bank's id 1 to 32 bytes, and the
-- password 1 to 64 bytes.
pub record IsOrdered (port name user pass bank : List ℕ) (command : List (List ℕ)) (order : Order) : Type 0 where
  pub name_is : order.name ≡ name
  pub user_is : order.user ≡ user
  pub pass_is : order.pass ≡ pass
  pub port_is : IsNumber 0 65535 port order.port
  pub name_fits : IsName name
  pub user_fits : IsTextWithin 32 user
  pub pass_fits : IsTextWithin 64 pass
  pub bank_fits : IsTextWithin 32 bank
  pub wish_is : IsWished bank command order.wish

-- The store is any word.
pub record AreArguments (arguments : List (List ℕ)) (order : Order) : Type 0 where
  pub port : List ℕ
  pub store : List ℕ
  pub name : List ℕ
  pub user : List ℕ
  pub pass : List ℕ
  pub bank : List ℕ
  pub command : List (List ℕ)
  pub spelled : arguments ≡ port ∷ store ∷ name ∷ user ∷ pass ∷ bank ∷ command
  pub ordered : IsOrdered port name user pass bank command order

-- Other arguments have no form.
abbrev pub IsUsage : List (List ℕ) → Type 0
IsUsage arguments = (order : Order) → AreArguments arguments order → ⊥
