-- The accounts of a bank, in the pool and lent. Which balances they have makes no difference.
use Rattle.std.proofs.Common.{◌≡◌, ℕ, ◌+◌, ◌<◌, ◌≤◌, ◌⊎◌, ◌↔◌, inl, inr, List, [], length, map, get_or, Option, None, Some, Result, Ok, Err, OnOk, refl, sym, ap, ◌∙◌, subst, arith}
use Rattle.std.specs.Prelude.{slice_get, slice_index}
use Rattle.std.specs.List.{All, Contains}
use Rattle.std.specs.Option.{IfSome, IsSome, option_map}
use Rattle.std.proofs.lemmas.Option.{slice_get_cases, slice_get_within, slice_get-map, slice_get-get_or}
use Rattle.std.proofs.lemmas.List.{get_or-map, length-map}
use Rattle.std.proofs.lemmas.List.Elements.{All-weaker, All-contains_itself}
use Rattle.ofx_types.specs.declared.number.AcctId.{AcctId}
use Rattle.bank_model.specs.declared.setup.Setup.{Setup}
use Rattle.bank_model.specs.declared.event.State.{State}
use Rattle.bank_accounts.specs.AccountView.{AccountView, Tables}
use Rattle.bank_accounts.specs.HeldAccounts.{NumbersRise, IsHeld, AreHeld, AreNamed, HaveSameNumbers}
use Rattle.bank_accounts.specs.Pool.{in_pool, AreAllPooled, AreNumbered, IsOutOrPooled, AreCheckedOut}
use Rattle.bank_accounts.specs.Sides.{IsOf, AreOf, tables_of}
use Rattle.bank_ledger.specs.Balanced.{AreBalanced}
use Rattle.bank_solo.specs.Solo.{AreAccountsIn, AreAccountsOf}

-- ---- all accounts

-- accounts that are numbered from 0 rise
pub rises : (accounts : List AccountView) → AreNumbered accounts → NumbersRise accounts
rises accounts numbered k within = by (slice_get_cases accounts k).1
  where
    ranks : List ℕ
    ranks = map (λ (account : AccountView). account.number.0) accounts

    size : length ranks ≡ length accounts
    size = length-map accounts (λ (account : AccountView). account.number.0)

    by : ((a : AccountView) × (k < length accounts) × (slice_get accounts k ≡ Some a) × (get_or accounts k a ≡ a)) ⊎ ((length accounts ≤ k) × (slice_get accounts k ≡ None)) → slice_index ranks k < slice_index ranks (k + 1)
    by (inl (a, below, some, is)) =
        let later : k + 1 < length accounts = omega (arith, within, size) in
        let here : get_or ranks k 0 ≡ k = get_or-map (λ (account : AccountView). account.number.0) accounts k a 0 below ∙ numbered k a below in
        let next : get_or ranks (k + 1) 0 ≡ k + 1 = get_or-map (λ (account : AccountView). account.number.0) accounts (k + 1) a 0 later ∙ numbered (k + 1) a later in
        omega (arith, here, next)
    by (inr (past, none)) = absurd (omega (arith, past, within, size))

-- Each of them has the table of its number.
pub all_own : (tables : Tables) (accounts : List AccountView) → AreAccountsOf tables accounts → AreOf tables accounts
all_own tables accounts are k d below =
    let account : AccountView = get_or accounts k d in
    ap (λ (n : ℕ). slice_get tables n) (are.numbered k d below)
    ∙ ap (λ (ts : Tables). slice_get ts k) (sym are.own)
    ∙ slice_get-map (λ (a : AccountView). a.table) accounts k
    ∙ ap (option_map (λ (a : AccountView). a.table)) (slice_get-get_or accounts k d below)

size_of : (tables : Tables) (accounts : List AccountView) → tables_of accounts ≡ tables → length accounts ≡ length tables
size_of tables accounts own = sym (length-map accounts (λ (account : AccountView). account.table)) ∙ ap length own

-- With their balances they are the accounts of a state.
pub as_in : (setup : Setup) (state : State) (tables : Tables) (accounts : List AccountView) → length tables ≡ length setup.accounts → AreAccountsOf tables accounts → AreBalanced setup state accounts → AreAccountsIn setup state accounts
as_in setup state tables accounts count are balanced = record { count = size_of tables accounts are.own ∙ count; numbered = are.numbered; balanced = balanced }

-- All accounts of a bank are in a pool of them.
pub none_lent : (tables : Tables) (accounts : List AccountView) (pool : List (Option AccountView)) (held : List AccountView) → AreAccountsOf tables accounts → AreCheckedOut (tables_of accounts) pool [] → held ≡ [] → AreCheckedOut tables pool held
none_lent tables accounts pool held are all none =
    subst (λ (ts : Tables). AreCheckedOut ts pool held) are.own (subst (AreCheckedOut (tables_of accounts) pool) (sym none) all)

-- Where none is checked out all are in the pool.
pub all_home : (tables : Tables) (pool : List (Option AccountView)) (held : List AccountView) → AreCheckedOut tables pool held → held ≡ [] → AreAllPooled pool
all_home tables pool held checked_out none number within = by (checked_out.each number (omega (arith, within, checked_out.count)))
  where
    by : IsOutOrPooled pool held number → IsSome (in_pool pool number)
    by (inl there) = absurd (let nothing : IsHeld [] number = subst (λ (accounts : List AccountView). IsHeld accounts number) none there.0 in omega arith)
    by (inr there) = there.1

-- The accounts that come out of a pool of all of them.
pub all_of : (tables : Tables) (pool : List (Option AccountView)) (held accounts : List AccountView) → AreCheckedOut tables pool held → held ≡ [] → AreNumbered accounts → ((ts : Tables) → AreCheckedOut ts pool [] → tables_of accounts ≡ ts) → AreAccountsOf tables accounts
all_of tables pool held accounts checked_out none numbered own = record {
  numbered = numbered;
  own = own tables (subst (AreCheckedOut tables pool) none checked_out);
}

pub same_all : (tables tables' : Tables) (accounts accounts' : List AccountView) → tables' ≡ tables → accounts' ≡ accounts → AreAccountsOf tables accounts → AreAccountsOf tables' accounts'
same_all tables tables' accounts accounts' same all are =
    subst (λ (ts : Tables). AreAccountsOf ts accounts') (sym same) (subst (AreAccountsOf tables) (sym all) are)

-- ---- the accounts that are lent

abbrev HaveOffsets : ℕ → List AccountView → Type 0
HaveOffsets count held = All (λ (a : AccountView). a.number.0 < count) held

-- an account of the bank has a place in the pool
pub are_known : (tables tables' : Tables) (pool : List (Option AccountView)) (held other : List AccountView) → tables' ≡ tables → AreCheckedOut tables pool held → AreOf tables' other → HaveOffsets (length pool) other
are_known tables tables' pool held other same checked_out own =
    All-weaker (IsOf tables') (λ (a : AccountView). a.number.0 < length pool)
    (λ a of. omega (arith, slice_get_within tables' a.number.0 a.table of, ap (λ (ts : Tables). length ts) same, checked_out.count)) other own

-- Accounts of the bank with the same numbers are lent like those before.
pub still_lent : (tables : Tables) (pool : List (Option AccountView)) (held other : List AccountView) → AreCheckedOut tables pool held → HaveSameNumbers other held → AreOf tables other → AreCheckedOut tables pool other
still_lent tables pool held other checked_out same own = record {
  count = checked_out.count;
  each = λ number there. each number (checked_out.each number there);
  pooled = checked_out.pooled;
  own = own;
}
  where
    moved : (number : AcctId) → IsHeld held number → IsHeld other number
    moved number there = subst (λ (ns : List AcctId). Contains ns number) (sym same) there

    back : (number : AcctId) → IsHeld other number → IsHeld held number
    back number there = subst (λ (ns : List AcctId). Contains ns number) same there

    each : (number : AcctId) → IsOutOrPooled pool held number → IsOutOrPooled pool other number
    each number (inl there) = inl (moved number there.0, there.1)
    each number (inr here) = inr (λ there. here.0 (back number there), here.1)

-- what is lent of one and the same bank
pub lent_at : (tables tables' : Tables) (pool : List (Option AccountView)) (held held' : List AccountView) → tables' ≡ tables → held' ≡ held → AreCheckedOut tables pool held → AreCheckedOut tables' pool held'
lent_at tables tables' pool held held' same all checked_out =
    subst (λ (ts : Tables). AreCheckedOut ts pool held') (sym same) (subst (AreCheckedOut tables pool) (sym all) checked_out)

-- After a step all accounts that were lent for it have come back.
pub all_back : (tables tables' : Tables) (pool pool' : List (Option AccountView)) (held other left : List AccountView) → tables' ≡ tables → AreCheckedOut tables pool held → HaveSameNumbers other held → AreOf tables' other → ((ts : Tables) → AreCheckedOut ts pool other → AreCheckedOut ts pool' left) → AreCheckedOut tables' pool' left
all_back tables tables' pool pool' held other left same checked_out numbers own back =
    back tables' (still_lent tables' pool held other (lent_at tables tables' pool held held same refl checked_out) numbers own)

-- ---- the accounts that an event names

-- accounts with the numbers that are named are those that an event names
pub named_are_held : (numbers : List AcctId) (held : List AccountView) (entries : List (Option AcctId)) → map (λ (account : AccountView). account.number) held ≡ numbers → ((account : AcctId) → Contains numbers account ↔ Contains entries (Some account)) → AreHeld held entries
named_are_held numbers held entries same only =
    All-weaker (Contains entries) (λ (entry : Option AcctId). IfSome entry (IsHeld held)) one entries (All-contains_itself entries)
  where
    one : (entry : Option AcctId) → Contains entries entry → IfSome entry (IsHeld held)
    one None there = tt
    one (Some account) there = subst (λ (ns : List AcctId). Contains ns account) (sym same) ((only account).1 there)

-- and no others
pub only_named : (numbers : List AcctId) (held : List AccountView) (entries : List (Option AcctId)) → map (λ (account : AccountView). account.number) held ≡ numbers → ((account : AcctId) → Contains numbers account ↔ Contains entries (Some account)) → AreNamed held entries
only_named numbers held entries same only =
    subst (All (λ (number : AcctId). Contains entries (Some number))) (sym same)
    (All-weaker (Contains numbers) (λ (number : AcctId). Contains entries (Some number)) (λ number there. (only number).0 there) numbers (All-contains_itself numbers))

-- the accounts that an event names have a place in the pool
pub named_known : (tables : Tables) (pool : List (Option AccountView)) (numbers : List AcctId) → length pool ≡ length tables → All (λ (number : AcctId). number.0 < length tables) numbers → All (λ (number : AcctId). number.0 < length pool) numbers
named_known tables pool numbers count known = subst (λ (n : ℕ). All (λ (number : AcctId). number.0 < n) numbers) (sym count) known

-- what follows where a result is one
pub when_done : {A E : Type 0} (result : Result A E) (P Q : Type 0) → (P → Q) → OnOk result P → OnOk result Q
when_done (Ok done) P Q follows holds = follows holds
when_done (Err refused) P Q follows holds = tt
