-- The text of a setup. A setup has one list of lines; its lines may end in LF or in CRLF.
use Rattle.std.specs.Prelude.{◌≡◌, ℕ, ◌+◌, ◌*◌, ◌<◌, ◌≤◌, ℤ, pos, ◌+ℤ◌, ◌≤ℤ◌, Bool, true, ◌&&◌, ◌||◌, ◌==◌, nat_le, not, List, [], ◌∷◌, ◌++◌, length, map, fold, slice_index_or, codes, ◌⊎◌}
use Rattle.std.specs.Str.{bytes_eq}
use Rattle.std.specs.List.{AllByRecursion, IsDistinct, join_with_byte, list_all}
use Rattle.std.specs.Fmt.{decimal, signed_decimal}
use Rattle.ofx_types.specs.declared.number.UserId.{UserId}
use Rattle.ofx_types.specs.AccountForm.{kind_word, same_account}
use Rattle.bank_model.specs.declared.setup.User.{User}
use Rattle.bank_model.specs.declared.setup.AccountLine.{AccountLine}
use Rattle.bank_model.specs.declared.setup.Setup.{Setup}

-- A word has 1 to 32 bytes from 0x21 to 0x7E without `&`, `<` and `>`.
abbrev pub is_word_byte : ℕ → Bool
is_word_byte b = nat_le 33 b && nat_le b 126 && not ((b == 38) || (b == 60) || (b == 62))

pub record IsWord (word : List ℕ) : Type 0 where
  pub is_there : 0 < length word
  pub is_within : length word ≤ 32
  pub is_plain : list_all is_word_byte word ≡ true

-- The words of a line are parted by one space.
abbrev pub line_of : List (List ℕ) → List ℕ
line_of words = join_with_byte 32 words

-- `USER`, the name, the password
abbrev pub user_line : User → List ℕ
user_line user = line_of (codes "USER" ∷ user.name ∷ user.pass ∷ [])

-- the name of a user by number
abbrev pub name_of : List User → UserId → List ℕ
name_of users u = slice_index_or (map (λ (user : User). user.name) users) u.0 []

-- `ACCT`, the number, the kind, the opening balance in cents, the names of the owners
abbrev pub account_line : List User → AccountLine → List ℕ
account_line users line =
    line_of (codes "ACCT" ∷ line.name.number ∷ kind_word line.name.kind ∷ signed_decimal line.opening.0 ∷ map (name_of users) line.owners)

-- The lines of a setup: the format's name and version, the bank, the limits, the users, the accounts.
unfoldable pub lines_of : Setup → List (List ℕ)
lines_of setup =
    line_of (codes "OFXBANK" ∷ codes "1" ∷ [])
    ∷ line_of (codes "BANK" ∷ setup.bank ∷ [])
    ∷ line_of (codes "LEAD" ∷ decimal setup.lead ∷ [])
    ∷ line_of (codes "WINDOW" ∷ decimal setup.window ∷ [])
    ∷ line_of (codes "ENTRIES" ∷ decimal setup.entries ∷ [])
    ∷ (map user_line setup.users ++ map (account_line setup.users) setup.accounts)

-- The bytes are these lines, each ended by LF or by CRLF.
abbrev pub AreLines : List ℕ → List (List ℕ) → Type 0
AreLines bytes [] = bytes ≡ []
AreLines bytes (line ∷ lines) = (rest : List ℕ) × ((bytes ≡ line ++ 10 ∷ rest) ⊎ (bytes ≡ line ++ 13 ∷ 10 ∷ rest)) × AreLines rest lines

-- all openings together
abbrev pub openings : List AccountLine → ℤ
openings lines = fold (λ (sum : ℤ) (line : AccountLine). sum +ℤ line.opening.0) (pos 0) lines

-- An account is of the setup's bank, its number is a word, it opens with 0 or more, and it has owners, each a
-- user and each once.
pub record IsAccountOf (own_bank : List ℕ) (users : List User) (line : AccountLine) : Type 0 where
  pub bank : line.name.bank ≡ own_bank
  pub number : IsWord line.name.number
  pub opening : pos 0 ≤ℤ line.opening.0
  pub owned : 0 < length line.owners
  pub owners : AllByRecursion (λ (u : UserId). u.0 < length users) line.owners
  pub once : IsDistinct (λ (u v : UserId). u.0 == v.0) line.owners

-- Names and passwords are words.
pub record IsUser (user : User) : Type 0 where
  pub name : IsWord user.name
  pub pass : IsWord user.pass

-- The limits that the lines of a setup keep one by one.
pub record KeepsLineLimits (setup : Setup) : Type 0 where
  pub bank : IsWord setup.bank
  pub lead : setup.lead ≤ 30
  pub window_low : 1 ≤ setup.window
  pub window_high : setup.window ≤ 10000
  pub entries_low : 1 ≤ setup.entries
  pub entries_high : setup.entries ≤ 9999999999
  pub users_low : 1 ≤ length setup.users
  pub users_high : length setup.users ≤ 1000
  pub users : AllByRecursion IsUser setup.users
  pub names : IsDistinct (λ (a b : User). bytes_eq a.name b.name) setup.users
  pub accounts_low : 1 ≤ length setup.accounts
  pub accounts_high : length setup.accounts ≤ 1000
  pub accounts : AllByRecursion (IsAccountOf setup.bank setup.users) setup.accounts
  pub numbers : IsDistinct (λ (a b : AccountLine). same_account a.name b.name) setup.accounts
  pub sum : openings setup.accounts ≤ℤ pos 9999999999999

-- The most entries kept for synchronisation: a window for each object. Each account has three objects and each user
-- one.
abbrev pub kept : Setup → ℕ
kept setup = setup.window * (3 * length setup.accounts + length setup.users)

-- The limits of a setup.
pub record IsWithinLimits (setup : Setup) : Type 0 where
  pub lines : KeepsLineLimits setup
  pub objects : kept setup ≤ 1000000

-- The bytes spell the setup.
pub record SpellsSetup (bytes : List ℕ) (setup : Setup) : Type 0 where
  pub small : length bytes ≤ 262144
  pub limits : IsWithinLimits setup
  pub lines : AreLines bytes (lines_of setup)
