-- The accounts of a bank that are in the pool, each in the slot of its number, and those that are checked out for the step of
-- an event.
use Rattle.std.specs.Prelude.{◌≡◌, ℕ, ◌<◌, ◌⊎◌, List, length, slice_index_or, Option, None, IsSome}
use Rattle.std.specs.Option.{IfSome}
use Rattle.ofx_types.specs.declared.number.AcctId.{AcctId}
use Rattle.bank_accounts.specs.AccountView.{AccountView, Tables}
use Rattle.bank_accounts.specs.HeldAccounts.{IsHeld}
use Rattle.bank_accounts.specs.Sides.{IsOf, AreOf}

-- the account of that number, where it is in the pool
abbrev pub in_pool : List (Option AccountView) → AcctId → Option AccountView
in_pool slots number = slice_index_or slots number.0 None

-- Each slot has the account of its number, or none.
abbrev pub AreUnderNumbers : List (Option AccountView) → Type 0
AreUnderNumbers slots =
    (number : AcctId) → IfSome (in_pool slots number) (λ (account : AccountView). account.number ≡ number)

-- Each of the accounts is in the pool.
abbrev pub AreAllPooled : List (Option AccountView) → Type 0
AreAllPooled slots = (number : AcctId) → number.0 < length slots → IsSome (in_pool slots number)

-- An account is checked out, and its slot is empty; or it isn't, and is in its slot.
abbrev pub IsOutOrPooled : List (Option AccountView) → List AccountView → AcctId → Type 0
IsOutOrPooled slots held number =
    (IsHeld held number × (in_pool slots number ≡ None))
    ⊎ ((IsHeld held number → ⊥) × IsSome (in_pool slots number))

-- Of the accounts of a bank, which have these tables, some are checked out and the others are in the pool, whatever their
-- balances are.
pub record AreCheckedOut (tables : Tables) (slots : List (Option AccountView)) (held : List AccountView) : Type 0 where
  pub count : length slots ≡ length tables
  pub each : (number : AcctId) → number.0 < length tables → IsOutOrPooled slots held number
  pub pooled : (number : AcctId) → IfSome (in_pool slots number) (IsOf tables)
  pub own : AreOf tables held

-- Accounts in the order of their numbers, from 0.
abbrev pub AreNumbered : List AccountView → Type 0
AreNumbered accounts =
    (k : ℕ) (d : AccountView) → k < length accounts → (slice_index_or accounts k d).number.0 ≡ k
