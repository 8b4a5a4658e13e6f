-- Accounts that are taken one after another, and given back from the last.
use Rattle.std.proofs.Common.{◌≡◌, ℕ, suc, ◌+◌, ◌<◌, ◌≤◌, ◌⊎◌, ⊎_elim, inl, inr, Bool, true, false, cond, eqb, List, [], ◌∷◌, ◌++◌, length, length-append, Option, None, Some, map, take, get_or, refl, sym, ap, ◌∙◌, subst, arith}
use Rattle.std.proofs.lemmas.Bool.{eqb-true, cases_eq, cases_lt}
use Rattle.std.proofs.lemmas.List.{append_cancel_right, get_or_append_left, get_or_at, get_or-map, map-append, take_more, take_all, length-map}
use Rattle.std.proofs.lemmas.List.Elements.{All-push, All-weaker, All-contains, Contains-append_left, Contains-push, Contains-push_cases}
use Rattle.std.specs.List.{All, Contains, find}
use Rattle.std.specs.List.Sorted.{IsStrictlyIncreasing}
use Rattle.std.specs.Option.{option_map, is_some}
use Rattle.ofx_types.specs.declared.number.AcctId.{AcctId}
use Rattle.ofx_types.specs.declared.number.Cents.{Cents}
use Rattle.atomic_table.specs.Seated.{TableId}
use Rattle.bank_accounts.specs.AccountView.{AccountView, Tables}
use Rattle.bank_accounts.specs.HeldAccounts.{NumbersRise, HaveSameNumbers, IsHeld, balance_held}
use Rattle.bank_accounts.specs.Row.{TurnView}
use Rattle.bank_accounts.specs.Sides.{IsOf, AreOf}
use Rattle.bank_accounts.proofs.HeldLemmas.{number_of, balance_held-some}
use Rattle.bank_turns.specs.Taking.{turn_of, turns_of}

-- ---- lists that end with one item

-- Two lists with an item at the end of each are equal only if their items are.
last_two : {X : Type 0} (xs ys : List X) (x y : X) → xs ++ x ∷ [] ≡ ys ++ y ∷ [] → (xs ≡ ys) × (x ≡ y)
last_two xs ys x y same =
    let size : length ys ≡ length xs = omega (arith, ap length same, length-append xs (x ∷ []), length-append ys (y ∷ [])) in
    let here : x ≡ y = sym (get_or_at xs x [] x (length xs) refl) ∙ (ap (λ l. get_or l (length xs) x) same ∙ get_or_at ys y [] x (length xs) size) in
    (append_cancel_right xs ys (x ∷ []) (same ∙ ap (λ z. ys ++ z ∷ []) (sym here)), here)

-- ---- accounts that are taken

-- So many of the numbers are taken, with the turns of their accounts.
pub record HasTaken (row : TableId) (tables : Tables) (numbers : List AcctId) (count : ℕ) (accounts : List AccountView) (turns : List TurnView) : Type 0 where
  pub numbers_are : map number_of accounts ≡ take count numbers
  pub own : AreOf tables accounts
  pub turns_are : turns ≡ turns_of row accounts

pub one_more : (row : TableId) (tables : Tables) (numbers : List AcctId) (count : ℕ) (accounts accounts' : List AccountView) (turns turns' : List TurnView) (number : AcctId) (account : AccountView) (turn : TurnView)
    → HasTaken row tables numbers count accounts turns → count < length numbers → number ≡ get_or numbers count number → account.number ≡ number → IsOf tables account
    → turn ≡ (record { row = row; number = number }) → accounts' ≡ accounts ++ account ∷ [] → turns' ≡ turns ++ turn ∷ [] → HasTaken row tables numbers (count + 1) accounts' turns'
one_more row tables numbers count accounts accounts' turns turns' number account turn so within is named of its accounts_are turns_more = record {
  numbers_are =
      ap (map number_of) accounts_are
      ∙ (map-append number_of accounts (account ∷ [])
      ∙ (ap (λ (l : List AcctId). l ++ account.number ∷ []) so.numbers_are
      ∙ (ap (λ (n : AcctId). take count numbers ++ n ∷ []) (named ∙ is) ∙ sym (take_more numbers count number within))));
  own = subst (AreOf tables) (sym accounts_are) (All-push (IsOf tables) accounts account so.own of);
  turns_are =
      turns_more
      ∙ (ap (λ (l : List TurnView). l ++ turn ∷ []) so.turns_are
      ∙ (ap (λ (t : TurnView). turns_of row accounts ++ t ∷ []) (its ∙ ap (λ (n : AcctId). record { row = row; number = n }) (sym named))
      ∙ (sym (map-append (turn_of row) accounts (account ∷ [])) ∙ ap (turns_of row) (sym accounts_are))));
}

-- numbers that rise are those of accounts that rise
ranks_of : (accounts : List AccountView) → map (λ (a : AccountView). a.number.0) accounts ≡ map (λ (n : AcctId). n.0) (map number_of accounts)
ranks_of [] = refl
ranks_of (a ∷ accounts) = ap (λ (rest : List ℕ). a.number.0 ∷ rest) (ranks_of accounts)

pub rise : (numbers : List AcctId) (accounts : List AccountView) → IsStrictlyIncreasing (map (λ (n : AcctId). n.0) numbers) → map number_of accounts ≡ numbers → NumbersRise accounts
rise numbers accounts rising same = subst IsStrictlyIncreasing (sym (ranks_of accounts ∙ ap (map (λ (n : AcctId). n.0)) same)) rising

-- ---- accounts that are given back

-- The last account is that of the last turn.
pub last_turn : (row : TableId) (held left : List AccountView) (turns rest : List TurnView) (account : AccountView) (turn : TurnView) → held ≡ left ++ account ∷ [] → turns ≡ turns_of row held
    → turns ≡ rest ++ turn ∷ [] → (rest ≡ turns_of row left) × (turn ≡ turn_of row account)
last_turn row held left turns rest account turn is all last =
    last_two rest (turns_of row left) turn (turn_of row account) (sym last ∙ (all ∙ (ap (turns_of row) is ∙ map-append (turn_of row) left (account ∷ []))))

-- ---- accounts that are held

cons_held : (account : AccountView) (accounts : List AccountView) (number : AcctId) → IsHeld accounts number → IsHeld (account ∷ accounts) number
cons_held account accounts number held = (suc held.0, omega (arith, held.1), held.2)

pub found_held : (accounts : List AccountView) (number : AcctId) → is_some (balance_held accounts number) ≡ true → IsHeld accounts number
found_held [] number found = cc
found_held (account ∷ accounts) number found = by (found_held accounts number) (eqb account.number.0 number.0) refl found
  where
    by : (is_some (balance_held accounts number) ≡ true → IsHeld accounts number) → (b : Bool) → eqb account.number.0 number.0 ≡ b
        → is_some (option_map (λ (a : AccountView). a.balance) (cond b (Some account) (find (λ (a : AccountView). eqb a.number.0 number.0) accounts))) ≡ true → IsHeld (account ∷ accounts) number
    by more true same there = (0, omega arith, ap (λ (n : ℕ). record { 0 = n }) (eqb-true account.number.0 number.0 same))
    by more false apart there = cons_held account accounts number (more there)

pub held_found : (accounts : List AccountView) (number : AcctId) → IsHeld accounts number → is_some (balance_held accounts number) ≡ true
held_found accounts number held = by (balance_held accounts number) refl
  where
    by : (found : Option Cents) → balance_held accounts number ≡ found → is_some found ≡ true
    by None none = absurd (balance_held-some accounts number held none)
    by (Some amount) some = refl

-- the accounts of so many numbers are held, and one more is
pub held_more : (accounts : List AccountView) (numbers : List AcctId) (k : ℕ) (number : AcctId) → k < length numbers → number ≡ get_or numbers k number → All (IsHeld accounts) (take k numbers) → IsHeld accounts number → All (IsHeld accounts) (take (k + 1) numbers)
held_more accounts numbers k number below is all held =
    subst (All (IsHeld accounts)) (ap (λ (n : AcctId). take k numbers ++ n ∷ []) is ∙ sym (take_more numbers k number below)) (All-push (IsHeld accounts) (take k numbers) number all held)

-- so those of all are
pub all_held : (accounts : List AccountView) (numbers : List AcctId) (k : ℕ) → length numbers ≤ k → All (IsHeld accounts) (take k numbers) → All (IsHeld accounts) numbers
all_held accounts numbers k past all = subst (All (IsHeld accounts)) (take_all k numbers past) all

-- ---- numbers of two lists

abbrev rank : AcctId → ℕ
rank number = number.0

-- The numbers below a bound that are in one of two lists, in order.
pub record AreMerged (first second : List AcctId) (bound : ℕ) (all : List AcctId) : Type 0 where
  pub rising : IsStrictlyIncreasing (map (λ (number : AcctId). number.0) all)
  pub below : All (λ (number : AcctId). number.0 < bound) all
  pub both : (number : AcctId) → number.0 < bound → (Contains first number ⊎ Contains second number → Contains all number) × (Contains all number → Contains first number ⊎ Contains second number)

rising_push : (xs : List AcctId) (n : AcctId) → IsStrictlyIncreasing (map rank xs) → All (λ (m : AcctId). m.0 < n.0) xs → IsStrictlyIncreasing (map rank (xs ++ n ∷ []))
rising_push xs n rising below k within = by (cases_lt (k + 1) (length xs))
  where
    all : List AcctId
    all = xs ++ n ∷ []

    size : length all ≡ length xs + 1
    size = length-append xs (n ∷ [])

    near : k + 1 < length all
    near = omega (arith, within, length-map all rank)

    here : k < length xs
    here = omega (arith, near, size)

    first : get_or (map rank all) k 0 ≡ (get_or xs k n).0
    first = get_or-map rank all k n 0 (omega (arith, here, size)) ∙ ap rank (get_or_append_left xs (n ∷ []) n k here)

    by : (k + 1 < length xs) ⊎ (length xs ≤ k + 1) → get_or (map rank all) k 0 < get_or (map rank all) (k + 1) 0
    by (inl more) =
        let second : get_or (map rank all) (k + 1) 0 ≡ (get_or xs (k + 1) n).0 = get_or-map rank all (k + 1) n 0 near ∙ ap rank (get_or_append_left xs (n ∷ []) n (k + 1) more) in
        let before = rising k (omega (arith, more, length-map xs rank)) in
        omega (arith, first, second, before, get_or-map rank xs k n 0 here, get_or-map rank xs (k + 1) n 0 more)
    by (inr last) =
        let second : get_or (map rank all) (k + 1) 0 ≡ n.0 = get_or-map rank all (k + 1) n 0 near ∙ ap rank (get_or_at xs n [] n (k + 1) (omega (arith, last, here))) in
        omega (arith, first, second, below k n here)

abbrev below_too : (bound : ℕ) (xs : List AcctId) → All (λ (m : AcctId). m.0 < bound) xs → All (λ (m : AcctId). m.0 < bound + 1) xs
below_too bound xs below = All-weaker (λ (m : AcctId). m.0 < bound) (λ (m : AcctId). m.0 < bound + 1) (λ m less. omega (arith, less)) xs below

same_rank : (a b : AcctId) → a.0 ≡ b.0 → a ≡ b
same_rank a b same = ap (λ (n : ℕ). record { 0 = n }) same

-- The number of the bound is in one of the lists.
pub merged_more : (first second all all' : List AcctId) (n : AcctId) → AreMerged first second n.0 all → Contains first n ⊎ Contains second n → all' ≡ all ++ n ∷ [] → AreMerged first second (n.0 + 1) all'
merged_more first second all all' n so there is = subst (AreMerged first second (n.0 + 1)) (sym is) (record {
  rising = rising_push all n so.rising so.below;
  below = All-push (λ (m : AcctId). m.0 < n.0 + 1) all n (below_too n.0 all so.below) (omega arith);
  both = λ number within. both number within (cases_eq number.0 n.0);
})
  where
    here : Contains (all ++ n ∷ []) n
    here = Contains-push all n

    both : (number : AcctId) → number.0 < n.0 + 1 → (number.0 ≡ n.0) ⊎ (number.0 ≡ n.0 → ⊥)
        → (Contains first number ⊎ Contains second number → Contains (all ++ n ∷ []) number) × (Contains (all ++ n ∷ []) number → Contains first number ⊎ Contains second number)
    both number within (inl same) =
        let is_n : n ≡ number = same_rank n number (sym same) in
        ((λ _. subst (Contains (all ++ n ∷ [])) is_n here), (λ _. subst (λ (m : AcctId). Contains first m ⊎ Contains second m) is_n there))
    both number within (inr apart) =
        let before = so.both number (omega (arith, within, apart)) in
        ((λ has. Contains-append_left all (n ∷ []) number (before.0 has)), (λ has. ⊎_elim (λ there. before.1 there) (λ same. absurd (apart (ap rank (sym same)))) (Contains-push_cases all n number has)))

-- It isn't in either.
pub merged_same : (first second all all' : List AcctId) (n : AcctId) → AreMerged first second n.0 all → (Contains first n ⊎ Contains second n → ⊥) → all' ≡ all → AreMerged first second (n.0 + 1) all'
merged_same first second all all' n so nowhere is = subst (AreMerged first second (n.0 + 1)) (sym is) (record {
  rising = so.rising;
  below = below_too n.0 all so.below;
  both = λ number within. both number within (cases_eq number.0 n.0);
})
  where
    both : (number : AcctId) → number.0 < n.0 + 1 → (number.0 ≡ n.0) ⊎ (number.0 ≡ n.0 → ⊥)
        → (Contains first number ⊎ Contains second number → Contains all number) × (Contains all number → Contains first number ⊎ Contains second number)
    both number within (inl same) =
        let is_n : number ≡ n = same_rank number n same in (
          (λ has. absurd (nowhere (subst (λ (m : AcctId). Contains first m ⊎ Contains second m) is_n has))),
          (λ has. absurd (let less = All-contains (λ (m : AcctId). m.0 < n.0) all number so.below has in omega (arith, less, same))),
        )
    both number within (inr apart) = so.both number (omega (arith, within, apart))

-- ---- the turns of accounts after a hold

turns_by_number : (row : TableId) (accounts : List AccountView) → turns_of row accounts ≡ map (λ (number : AcctId). record { row = row; number = number }) (map (λ (account : AccountView). account.number) accounts)
turns_by_number row [] = refl
turns_by_number row (account ∷ accounts) = ap (λ (rest : List TurnView). turn_of row account ∷ rest) (turns_by_number row accounts)

-- The turns are those of the accounts after the hold, which have the same numbers.
pub same_turns : (row : TableId) (before after : List AccountView) (turns : List TurnView) → turns ≡ turns_of row before → HaveSameNumbers after before → turns ≡ turns_of row after
same_turns row before after turns are same =
    are
    ∙ (turns_by_number row before
    ∙ (ap (map (λ (number : AcctId). record { row = row; number = number })) (sym same) ∙ sym (turns_by_number row after)))
