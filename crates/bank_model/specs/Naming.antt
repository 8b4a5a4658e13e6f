-- The accounts that an event names, in order.
use Rattle.std.specs.Prelude.{nat_lt, ◌==◌, if◌then◌else◌, List, [], ◌∷◌, fold, Option, None, Some}
use Rattle.ofx_types.specs.declared.number.AcctId.{AcctId}

-- An account is inserted among others whose numbers rise. It is there once.
abbrev pub inserted : AcctId → List AcctId → List AcctId
inserted account [] = account ∷ []
inserted account (other ∷ more) =
    if nat_lt other.0 account.0 then other ∷ inserted account more
    else (if other.0 == account.0 then other ∷ more else account ∷ other ∷ more)

abbrev pub with_any : List AcctId → Option AcctId → List AcctId
with_any accounts None = accounts
with_any accounts (Some account) = inserted account accounts

-- accounts that rise, with all of others that there are
abbrev pub with_all : List AcctId → List (Option AcctId) → List AcctId
with_all accounts named = fold with_any accounts named
