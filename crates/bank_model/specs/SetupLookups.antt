-- What a setup knows of users and accounts.
use Rattle.std.specs.Prelude.{ℕ, Bool, ◌&&◌, ◌==◌, false, List, [], Option, None, Some, position, if◌then◌else◌}
use Rattle.std.specs.Option.{option_map}
use Rattle.std.specs.List.{slice_get, list_any}
use Rattle.std.specs.Str.{bytes_eq}
use Rattle.ofx_types.specs.AccountForm.{same_account}
use Rattle.ofx_types.specs.declared.account.AcctName.{AcctName}
use Rattle.ofx_types.specs.declared.number.UserId.{UserId}
use Rattle.ofx_types.specs.declared.number.AcctId.{AcctId}
use Rattle.bank_model.specs.declared.setup.User.{User}
use Rattle.bank_model.specs.declared.setup.AccountLine.{AccountLine}
use Rattle.bank_model.specs.declared.setup.Setup.{Setup}

-- The user who has this name and this password, byte for byte.
abbrev pub signed_on : Setup → List ℕ → List ℕ → Option UserId
signed_on setup name pass =
    option_map (λ (index : ℕ). record { 0 = index }) (position (λ (user : User). bytes_eq user.name name && bytes_eq user.pass pass) setup.users)

-- The user of this name, byte for byte.
abbrev pub user_of : Setup → List ℕ → Option UserId
user_of setup name =
    option_map (λ (index : ℕ). record { 0 = index }) (position (λ (user : User). bytes_eq user.name name) setup.users)

-- The account of this name: bank id, number and kind together.
abbrev pub account_of : Setup → AcctName → Option AcctId
account_of setup name =
    option_map (λ (index : ℕ). record { 0 = index }) (position (λ (line : AccountLine). same_account line.name name) setup.accounts)

-- the account line of that number
abbrev pub line_at : Setup → AcctId → Option AccountLine
line_at setup account = slice_get setup.accounts account.0

abbrev pub names_owner : UserId → Option AccountLine → Bool
names_owner user None = false
names_owner user (Some line) = list_any (λ (owner : UserId). owner.0 == user.0) line.owners

-- An account is a user's where the setup names the user among its owners.
abbrev pub is_owner : Setup → UserId → AcctId → Bool
is_owner setup user account = names_owner user (line_at setup account)

-- An account that a file names, where it is the user's.
abbrev pub if_owned : Setup → UserId → Option AcctId → Option AcctId
if_owned setup user None = None
if_owned setup user (Some account) = if is_owner setup user account then Some account else None

abbrev pub own_account : Setup → UserId → AcctName → Option AcctId
own_account setup user name = if_owned setup user (account_of setup name)

-- the name of a user, empty where there is none
abbrev pub name_in : Option User → List ℕ
name_in None = []
name_in (Some user) = user.name

abbrev pub user_name : Setup → UserId → List ℕ
user_name setup user = name_in (slice_get setup.users user.0)
