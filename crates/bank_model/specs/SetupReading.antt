-- Reading a setup from left to right, line by line. A line that has no form or passes a limit is read as nothing, and
-- the setup's fault is there.
use Rattle.std.specs.Prelude.{◌≡◌, ℕ, ◌+◌, ◌≤◌, pos, ◌+ℤ◌, Bool, false, ◌||◌, ◌==◌, nat_le, nat_lt, int_le, not, List, [], ◌∷◌, ◌++◌, length, take, slice_index, codes, Option, None, Some, Result, Ok, Err, position, if◌then◌else◌}
use Rattle.std.specs.Str.{bytes_eq}
use Rattle.std.specs.Char.{is_ascii_digit}
use Rattle.std.specs.Str.Lines.{strip_carriage_return}
use Rattle.std.specs.Str.Parse.{digits_value}
use Rattle.std.specs.List.{list_any, list_all, slice_split}
use Rattle.ofx_types.specs.declared.account.AcctKind.{AcctKind}
use Rattle.ofx_types.specs.declared.account.AcctKind.TheVariants.{Checking, Savings, MoneyMarket, CreditLine}
use Rattle.ofx_types.specs.declared.account.AcctName.{AcctName}
use Rattle.ofx_types.specs.declared.number.UserId.{UserId}
use Rattle.ofx_types.specs.declared.number.Cents.{Cents}
use Rattle.ofx_types.specs.AccountForm.{same_account}
use Rattle.bank_model.specs.declared.setup.User.{User}
use Rattle.bank_model.specs.declared.setup.AccountLine.{AccountLine}
use Rattle.bank_model.specs.declared.setup.Setup.{Setup}
use Rattle.bank_model.specs.declared.setup.SetupFault.{SetupFault}
use Rattle.bank_model.specs.declared.setup.SetupFault.TheVariants as faults
use Rattle.bank_model.specs.declared.setup.draft.SetupDraft.{SetupDraft}
use Rattle.bank_model.specs.SetupForm.{is_word_byte, kept}
use Rattle.bank_model.specs.SetupFault.{lines_within}
pub use Rattle.ofx_types.specs.ValueReading.{◌>>=◌}

-- nothing where the test holds
abbrev pub unless : {A : Type 0} → Bool → Option A → Option A
unless test found = if test then None else found

-- Memory may be refused without a cause. A line is named where reading has its fault there.
abbrev pub Names : {Y : Type 0} → SetupFault → Result Y ℕ → Type 0
Names (faults.SetupLine k) read = read ≡ Err k
Names faults.OutOfMemory read = Unit {0}

-- What a function returned, seen by view, is what reading gives, unless memory was refused.
abbrev pub ReadsSetup : {X Y : Type 0} → (X → Y) → Result X SetupFault → Result Y ℕ → Type 0
ReadsSetup view (Ok x) read = read ≡ Ok (view x)
ReadsSetup view (Err fault) read = Names fault read

-- the bytes before and after the first byte that is the mark
unfoldable pub cut : ℕ → List ℕ → Option (List ℕ × List ℕ)
cut mark [] = None
cut mark (b ∷ bs) = if b == mark then Some ([], bs) else (cut mark bs >>= λ parts. Some (b ∷ parts.0, parts.1))

-- what follows the key and a space
unfoldable pub after_key : List ℕ → List ℕ → Option (List ℕ)
after_key key line = do
  parts ← cut 32 line
  if bytes_eq parts.0 key then Some parts.1 else None

abbrev pub is_word_form : List ℕ → Bool
is_word_form bytes =
    if length bytes == 0 then false
    else (if nat_lt 32 (length bytes) then false else list_all is_word_byte bytes)

-- 1 to 13 digits without leading zeros
abbrev pub is_number_form : List ℕ → Bool
is_number_form word =
    if length word == 0 then false
    else (if nat_lt 13 (length word) then false
    else (if slice_index word 0 == 48 then length word == 1 else list_all is_ascii_digit word))

unfoldable pub number_of : List ℕ → Option ℕ
number_of word = if is_number_form word then Some (digits_value 10 word) else None

unfoldable pub number_within : ℕ → ℕ → List ℕ → Option ℕ
number_within lowest highest word = do
  n ← number_of word
  unless (nat_lt n lowest) (unless (nat_lt highest n) (Some n))

-- the first line without its end, and what follows it
unfoldable pub line_at : List ℕ → Option (List ℕ × List ℕ)
line_at bytes = do
  parts ← cut 10 bytes
  Some (strip_carriage_return parts.0, parts.1)

unfoldable pub bank_at : List ℕ → Option (List ℕ)
bank_at line = do
  bank ← after_key (codes "BANK") line
  unless (not (is_word_form bank)) (Some bank)

unfoldable pub user_at : List ℕ → Option User
user_at fields = do
  parts ← cut 32 fields
  unless (not (is_word_form parts.0)) (unless (not (is_word_form parts.1)) (Some (record { name = parts.0; pass = parts.1 })))

abbrev pub kind_at : List ℕ → Option AcctKind
kind_at word =
    if bytes_eq word (codes "CHECKING") then Some Checking
    else (if bytes_eq word (codes "SAVINGS") then Some Savings
    else (if bytes_eq word (codes "MONEYMRKT") then Some MoneyMarket
    else (if bytes_eq word (codes "CREDITLINE") then Some CreditLine else None)))

abbrev pub user_at_index : Option ℕ → Option UserId
user_at_index None = None
user_at_index (Some occurrence) = Some (record { 0 = occurrence })

-- the user of that name, which is a word
abbrev pub user_named : List User → List ℕ → Option UserId
user_named users name = unless (not (is_word_form name)) (user_at_index (position (λ (user : User). bytes_eq user.name name) users))

abbrev pub is_listed : UserId → List UserId → Bool
is_listed owner owners = list_any (λ (other : UserId). other.0 == owner.0) owners

-- an owner more, who is a user and not among the owners so far
abbrev pub owner_more : List User → List UserId → List ℕ → Option (List UserId)
owner_more users owners name = user_named users name >>= λ owner. unless (is_listed owner owners) (Some (owners ++ owner ∷ []))

-- the owners so far, and those of the names
unfoldable pub owners_from : List User → List UserId → List (List ℕ) → Option (List UserId)
owners_from users owners [] = Some owners
owners_from users owners (name ∷ names) = do
  more ← owner_more users owners name
  owners_from users more names

-- the words of a line, one space between each two
abbrev pub words_of : List ℕ → List (List ℕ)
words_of bytes = slice_split (λ b. b == 32) bytes

abbrev pub owners_at : List User → List ℕ → Option (List UserId)
owners_at users names = owners_from users [] (words_of names)

unfoldable pub account_at : List ℕ → List User → List ℕ → Option AccountLine
account_at bank users fields = do
  number ← cut 32 fields
  kind_word ← cut 32 number.1
  opening_word ← cut 32 kind_word.1
  kind ← unless (not (is_word_form number.0)) (kind_at kind_word.0)
  opening ← number_of opening_word.0
  owners ← owners_at users opening_word.1
  Some (record { name = record { bank = bank; number = number.0; kind = kind }; opening = record { 0 = pos opening }; owners = owners })

abbrev pub is_taken : List ℕ → List User → Bool
is_taken name users = list_any (λ (user : User). bytes_eq user.name name) users

abbrev pub is_repeated : AcctName → List AccountLine → Bool
is_repeated name accounts = list_any (λ (line : AccountLine). same_account line.name name) accounts

abbrev pub openings_with : Cents → Cents → Option Cents
openings_with openings opening =
    if int_le (openings.0 +ℤ opening.0) (pos 9999999999999) then Some (record { 0 = openings.0 +ℤ opening.0 }) else None

-- a user more: before the first account, no more than 1,000, none with a name that is there already
unfoldable pub with_user : SetupDraft → List ℕ → Option SetupDraft
with_user draft fields =
    unless (nat_lt 0 (length draft.setup.accounts)) (unless (nat_le 1000 (length draft.setup.users)) (user_at fields >>= λ user.
    unless (is_taken user.name draft.setup.users) (Some (record draft { setup = record draft.setup { users = draft.setup.users ++ user ∷ [] } }))))

-- an account more: after the first user, no more than 1,000, none with a name that is there already
unfoldable pub with_account : SetupDraft → List ℕ → Option SetupDraft
with_account draft fields =
    unless (length draft.setup.users == 0) (unless (nat_lt 1000 (length draft.setup.users)) (unless (nat_le 1000 (length draft.setup.accounts))
    (account_at draft.setup.bank draft.setup.users fields >>= λ account.
    unless (is_repeated account.name draft.setup.accounts) (openings_with draft.openings account.opening >>= λ openings.
    Some (record { setup = record draft.setup { accounts = draft.setup.accounts ++ account ∷ [] }; openings = openings })))))

-- what follows `USER`, and otherwise the line
abbrev pub with_user_or_account : SetupDraft → Option (List ℕ) → List ℕ → Option SetupDraft
with_user_or_account draft (Some fields) line = with_user draft fields
with_user_or_account draft None line = after_key (codes "ACCT") line >>= with_account draft

-- a line after the first five, which is a user or an account
unfoldable pub with_body_line : SetupDraft → List ℕ → Option SetupDraft
with_body_line draft line = with_user_or_account draft (after_key (codes "USER") line) line

-- the line of the format
abbrev pub with_format : SetupDraft → List ℕ → Option SetupDraft
with_format draft line = if bytes_eq line (codes "OFXBANK 1") then Some draft else None

unfoldable pub with_bank : SetupDraft → List ℕ → Option SetupDraft
with_bank draft line = bank_at line >>= λ bank. Some (record draft { setup = record draft.setup { bank = bank } })

-- the number after the key, from the lowest to the highest
unfoldable pub limit_at : List ℕ → ℕ → ℕ → List ℕ → Option ℕ
limit_at key lowest highest line = after_key key line >>= number_within lowest highest

unfoldable pub with_lead : SetupDraft → List ℕ → Option SetupDraft
with_lead draft line = limit_at (codes "LEAD") 0 30 line >>= λ lead. Some (record draft { setup = record draft.setup { lead = lead } })

unfoldable pub with_window : SetupDraft → List ℕ → Option SetupDraft
with_window draft line = limit_at (codes "WINDOW") 1 10000 line >>= λ window. Some (record draft { setup = record draft.setup { window = window } })

unfoldable pub with_entries : SetupDraft → List ℕ → Option SetupDraft
with_entries draft line = limit_at (codes "ENTRIES") 1 9999999999 line >>= λ entries. Some (record draft { setup = record draft.setup { entries = entries } })

-- the line of that number more, from 1
unfoldable pub with_line : ℕ → SetupDraft → List ℕ → Option SetupDraft
with_line number draft line =
    if number == 1 then with_format draft line
    else (if number == 2 then with_bank draft line
    else (if number == 3 then with_lead draft line
    else (if number == 4 then with_window draft line
    else (if number == 5 then with_entries draft line else with_body_line draft line))))

-- no line is read
abbrev pub unread : SetupDraft
unread = record { setup = record { bank = []; users = []; accounts = []; lead = 0; window = 0; entries = 0 }; openings = record { 0 = pos 0 } }

-- on with the draft, and otherwise a fault at the line of that number
abbrev pub or_fault_at : ℕ → Option SetupDraft → (SetupDraft → Result SetupDraft ℕ) → Result SetupDraft ℕ
or_fault_at number None further = Err number
or_fault_at number (Some draft) further = further draft

-- the draft with the lines, of which the first has that number
unfoldable pub with_lines : ℕ → SetupDraft → List (List ℕ) → Result SetupDraft ℕ
with_lines number draft [] = Ok draft
with_lines number draft (line ∷ lines) = or_fault_at number (with_line number draft line) (λ next. with_lines (number + 1) next lines)

abbrev pub last_part : List (List ℕ) → List ℕ
last_part [] = []
last_part (part ∷ []) = part
last_part (part ∷ next ∷ parts) = last_part (next ∷ parts)

-- what follows the last LF
unfoldable pub left_in : List ℕ → List ℕ
left_in bytes = last_part (slice_split (λ b. b == 10) bytes)

-- so far the window and the numbers of users and accounts are within their limits
pub record IsBounded (s : Setup) : Type 0 where
  pub window : s.window ≤ 10000
  pub users : length s.users ≤ 1000
  pub accounts : length s.accounts ≤ 1000

abbrev pub objects_fit : Setup → Bool
objects_fit setup = nat_le (kept setup) 1000000

-- whether a line is missing after those of the draft, isn't ended, or goes on after the most bytes
abbrev pub lacks_line : List ℕ → List ℕ → SetupDraft → Bool
lacks_line bytes left draft = nat_lt 262144 (length bytes) || nat_lt 0 (length left) || (length draft.setup.accounts == 0)

-- the setup of a draft of all lines, or a fault after the last line or at it
abbrev pub judged : List ℕ → Result SetupDraft ℕ → Result Setup ℕ
judged bytes (Err k) = Err k
judged bytes (Ok draft) =
    if lacks_line bytes (left_in (take 262144 bytes)) draft then Err (length (lines_within bytes) + 1)
    else (if objects_fit draft.setup then Ok draft.setup else Err (length (lines_within bytes)))

-- the whole setup
unfoldable pub setup_at : List ℕ → Result Setup ℕ
setup_at bytes = judged bytes (with_lines 1 unread (lines_within bytes))
