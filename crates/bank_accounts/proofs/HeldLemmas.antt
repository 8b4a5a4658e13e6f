-- Accounts that are held: found by their numbers, and given other balances.
use Rattle.std.proofs.Common.{◌≡◌, ℕ, zero, suc, ◌+◌, ◌<◌, ◌==◌, Bool, true, false, cond, eqb, List, [], ◌∷◌, ◌++◌, length, length-append, Option, None, Some, map, take, drop, refl, ap, ◌∙◌, sym, arith, get_or}
use Rattle.std.proofs.lemmas.Bool.{eq-eqb}
use Rattle.std.proofs.lemmas.List.{map-append, take-append-drop}
use Rattle.std.proofs.lemmas.Grind.{common_steps}
use Rattle.std.proofs.Math.ListN.{get_or-append}
use Rattle.std.specs.List.{find}
use Rattle.std.specs.List.Sorted.{IsStrictlyIncreasing}
use Rattle.std.specs.Option.{option_map}
use Rattle.ofx_types.specs.declared.number.AcctId.{AcctId}
use Rattle.ofx_types.specs.declared.number.Cents.{Cents}
use Rattle.bank_accounts.specs.AccountView.{AccountView}
use Rattle.bank_accounts.specs.BalancesView.{amount_given}
use Rattle.bank_accounts.specs.declared.balances.Balance.{Balance}
use Rattle.bank_accounts.specs.HeldAccounts.{NumbersRise, balance_held, IsHeld, with_amount, with_balances}

abbrev pub number_of : AccountView → AcctId
number_of account = account.number

abbrev amount_of : AccountView → Cents
amount_of account = account.balance

-- numbers that rise still do without the last ones
pub rising_prefix : (xs ys : List ℕ) → IsStrictlyIncreasing (xs ++ ys) → IsStrictlyIncreasing xs
rising_prefix xs ys rising k below =
    let here : k < length xs = omega arith in
    let both : k + 1 < length (xs ++ ys) = omega (arith, length-append xs ys) in
    let rise = rising k both in
    omega (arith, rise, get_or-append xs ys 0 k here, get_or-append xs ys 0 (k + 1) below)

pub NumbersRise-prefix : (xs ys : List AccountView) → NumbersRise (xs ++ ys) → NumbersRise xs
NumbersRise-prefix xs ys rising =
    rising_prefix (map (λ (account : AccountView). account.number.0) xs) (map (λ (account : AccountView). account.number.0) ys)
    (rw map-append at rising)

-- where nothing is found, the rest has nothing either
none_in_rest : (b : Bool) (account : AccountView) (rest : Option AccountView) → option_map amount_of (cond b (Some account) rest) ≡ None → option_map amount_of rest ≡ None
none_in_rest true account rest none = cc
none_in_rest false account rest none = none

held_at : (accounts : List AccountView) (number : AcctId) (k : ℕ) → k < length (map number_of accounts) → get_or (map number_of accounts) k number ≡ number → balance_held accounts number ≡ None → ⊥
held_at [] number k below is none = omega arith
held_at (account ∷ accounts) number zero below is none =
    let same : eqb account.number.0 number.0 ≡ true = eq-eqb account.number.0 number.0 (ap (λ (n : AcctId). n.0) is) in
    let found = rw same at none in cc
held_at (account ∷ accounts) number (suc k) below is none =
    held_at accounts number k (omega arith) is
    (none_in_rest (eqb account.number.0 number.0) account (find (λ (held : AccountView). eqb held.number.0 number.0) accounts) none)

-- a held account is found
pub balance_held-some : (accounts : List AccountView) (number : AcctId) → IsHeld accounts number → balance_held accounts number ≡ None → ⊥
balance_held-some accounts number held none = held_at accounts number held.0 held.1 held.2 none

-- ---- changes of balances

abbrev rank_of : AccountView → ℕ
rank_of account = account.number.0

abbrev KeepsNumbers : (AccountView → AccountView) → Type 0
KeepsNumbers change = (account : AccountView) → rank_of (change account) ≡ rank_of account

same_numbers : (change : AccountView → AccountView) → KeepsNumbers change → (xs : List AccountView) → map rank_of (map change xs) ≡ map rank_of xs
same_numbers change keeps [] = refl
same_numbers change keeps (x ∷ xs) = rw (keeps x, same_numbers change keeps xs) refl

same_length : (change : AccountView → AccountView) (i : ℕ) (xs : List AccountView) → length (map change (take i xs) ++ drop i xs) ≡ length xs
same_length change i xs = grind (arith, common_steps)

-- what is written back is the whole list
all_back : (xs ys : List AccountView) (n : ℕ) → length ys ≡ length xs → n ≡ length xs → take n (ys ++ drop (length ys) xs) ≡ ys
all_back xs ys n same whole = grind (arith, common_steps)

-- A loop that changes balances alone leaves the numbers in their order.
rising_through : (change : AccountView → AccountView) → KeepsNumbers change → (xs ys : List AccountView) (i n : ℕ) → NumbersRise xs → ys ≡ map change (take i xs) ++ drop i xs → n ≡ length xs → NumbersRise (take n (ys ++ drop (length ys) xs))
rising_through change keeps xs ys i n rising changed whole =
    let same : length ys ≡ length xs = ap length changed ∙ same_length change i xs in
    let numbers : map rank_of ys ≡ map rank_of xs =
    ap (map rank_of) changed
    ∙ map-append rank_of (map change (take i xs)) (drop i xs)
    ∙ ap (λ (prefix : List ℕ). prefix ++ map rank_of (drop i xs)) (same_numbers change keeps (take i xs))
    ∙ sym (map-append rank_of (take i xs) (drop i xs))
    ∙ ap (map rank_of) (take-append-drop i xs) in
    rw (all_back xs ys n same whole, numbers) rising

keeps_with_amount : (account : AccountView) (amount : Option Cents) → rank_of (with_amount account amount) ≡ rank_of account
keeps_with_amount account None = refl
keeps_with_amount account (Some amount) = refl

pub rising_settled : (given : List Balance) (xs ys : List AccountView) (i n : ℕ) → NumbersRise xs → ys ≡ map (with_balances given) (take i xs) ++ drop i xs → n ≡ length xs → NumbersRise (take n (ys ++ drop (length ys) xs))
rising_settled given xs ys i n =
    rising_through (with_balances given) (λ account. keeps_with_amount account (amount_given given account.number)) xs ys i n
