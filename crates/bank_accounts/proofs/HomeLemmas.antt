-- Accounts that are checked out, one after another, and come back.
use Rattle.std.proofs.Common.{◌≡◌, ℕ, true, false, Result, Ok, Err, zero, suc, ◌+◌, ◌<◌, ◌≤◌, ◌⊎◌, inl, inr, pos, List, [], ◌∷◌, ◌++◌, length, length-append, Option, None, Some, map, take, drop, set, get_or, refl, ap, ◌∙◌, sym, subst, arith}
use Rattle.std.proofs.lemmas.Bool.{cases_eq, cases_lt}
use Rattle.std.proofs.lemmas.List.{append_assoc, map-append, take-append-drop, take-map, take_more, get_or-map, get_or_at, get_or_append_left, get_or-set_same, get_or-set_other, get_or_past, get_or-take, length-set, length-map, length-take, ext_get_or}
use Rattle.std.proofs.lemmas.List.Elements.{All-nil, All-push, All-pop, Contains-append_left, Contains-append_cases, Contains-push}
use Rattle.std.specs.List.{All, Contains}
use Rattle.std.specs.List.Sorted.{IsStrictlyIncreasing}
use Rattle.std.specs.Option.{IfSome, IsSome, option_map}
use Rattle.std.specs.Result.{OnOk, OnErr, is_err}
use Rattle.std.proofs.lemmas.Option.{slice_get-map, slice_get-get_or, get_or_from_slice_get}
use Rattle.std.specs.Prelude.{slice_get}
use Rattle.atomic_table.specs.Seated.{TableId}
use Rattle.ofx_types.specs.declared.number.AcctId.{AcctId}
use Rattle.bank_accounts.specs.AccountView.{AccountView, Tables}
use Rattle.bank_accounts.specs.HeldAccounts.{NumbersRise, IsHeld}
use Rattle.bank_accounts.specs.Pool.{in_pool, AreUnderNumbers, AreAllPooled, AreNumbered, IsOutOrPooled, AreCheckedOut}
use Rattle.bank_accounts.specs.Sides.{tables_of, IsOf, AreOf}
use Rattle.bank_accounts.proofs.HeldLemmas.{number_of, rising_prefix}

abbrev rank : AcctId → ℕ
rank number = number.0

abbrev no_table : TableId
no_table = record { words = 0; slots = 0; views_name = 0; atom = 0; block = 0; offset = 0; slot_names = [] }

-- an account with that number, whatever else it has
abbrev nothing_at : AcctId → AccountView
nothing_at number = record { number = number; balance = record { 0 = pos 0 }; table = no_table }

-- ---- accounts in the order of their numbers

below : (xs : List ℕ) → IsStrictlyIncreasing xs → (i j : ℕ) → j < i → i < length xs → get_or xs j 0 < get_or xs i 0
below xs rising zero j less within = absurd (omega arith)
below xs rising (suc i) j less within =
    let next : suc i ≡ i + 1 = omega arith in
    let here : get_or xs i 0 < get_or xs (suc i) 0 = subst (λ (n : ℕ). get_or xs i 0 < get_or xs n 0) (sym next) (rising i (omega arith)) in
    step here (cases_eq j i) (λ near. below xs rising i j near (omega arith))
  where
    step : get_or xs i 0 < get_or xs (suc i) 0 → (j ≡ i) ⊎ (j ≡ i → ⊥) → (j < i → get_or xs j 0 < get_or xs i 0) → get_or xs j 0 < get_or xs (suc i) 0
    step here (inl same) before = subst (λ (n : ℕ). get_or xs n 0 < get_or xs (suc i) 0) (sym same) here
    step here (inr apart) before = let first = before (omega (arith, apart, less)) in omega (arith, first, here)

-- the number of an account occurs once in a row that rises
pub not_before : (held : List AccountView) (account : AccountView) → NumbersRise (held ++ account ∷ []) → IsHeld held account.number → ⊥
not_before held account rising h =
    let all : List AccountView = held ++ account ∷ [] in
    let ranks : List ℕ = map (λ (a : AccountView). a.number.0) all in
    let size : length all ≡ length held + 1 = length-append held (account ∷ []) in
    let near : h.0 < length held = omega (arith, length-map held number_of) in
    let first : get_or ranks h.0 0 ≡ account.number.0 =
    get_or-map (λ (a : AccountView). a.number.0) all h.0 account 0 (omega arith)
    ∙ ap (λ (a : AccountView). a.number.0) (get_or_append_left held (account ∷ []) account h.0 near)
    ∙ ap rank (sym (get_or-map number_of held h.0 account account.number near))
    ∙ ap rank h.2 in
    let last : get_or ranks (length held) 0 ≡ account.number.0 =
    get_or-map (λ (a : AccountView). a.number.0) all (length held) account 0 (omega arith)
    ∙ ap (λ (a : AccountView). a.number.0) (get_or_at held account [] account (length held) refl) in
    let less = below ranks rising (length held) h.0 near (omega (arith, length-map all (λ (a : AccountView). a.number.0))) in
    omega (arith, first, last, less)

-- ---- the next one of a row of numbers

pub numbers_next : (numbers : List AcctId) (held : List AccountView) (account : AccountView) (i : ℕ) → map number_of held ≡ take i numbers → i < length numbers → account.number ≡ get_or numbers i account.number → map number_of (held ++ account ∷ []) ≡ take (i + 1) numbers
numbers_next numbers held account i same within is =
    map-append number_of held (account ∷ [])
    ∙ ap (λ (prefix : List AcctId). prefix ++ account.number ∷ []) same
    ∙ ap (λ (n : AcctId). take i numbers ++ n ∷ []) is
    ∙ sym (take_more numbers i account.number within)

ranks_of : (accounts : List AccountView) → map (λ (a : AccountView). a.number.0) accounts ≡ map rank (map number_of accounts)
ranks_of [] = refl
ranks_of (a ∷ accounts) = ap (λ (rest : List ℕ). a.number.0 ∷ rest) (ranks_of accounts)

pub rises_next : (numbers : List AcctId) (held : List AccountView) (account : AccountView) (i : ℕ) → IsStrictlyIncreasing (map rank numbers) → map number_of held ≡ take i numbers → i < length numbers → account.number ≡ get_or numbers i account.number → NumbersRise (held ++ account ∷ [])
rises_next numbers held account i rising same within is =
    let ranks : map (λ (a : AccountView). a.number.0) (held ++ account ∷ []) ≡ take (i + 1) (map rank numbers) =
    ranks_of (held ++ account ∷ []) ∙ ap (map rank) (numbers_next numbers held account i same within is) ∙ sym (take-map rank (i + 1) numbers) in
    subst IsStrictlyIncreasing (sym ranks)
    (rising_prefix (take (i + 1) (map rank numbers)) (drop (i + 1) (map rank numbers))
    (subst IsStrictlyIncreasing (sym (take-append-drop (i + 1) (map rank numbers))) rising))

-- no number is held before its turn
pub not_yet : (numbers : List AcctId) (held : List AccountView) (number : AcctId) (i : ℕ) → IsStrictlyIncreasing (map rank numbers) → map number_of held ≡ take i numbers → i < length numbers → number ≡ get_or numbers i number → IsHeld held number → ⊥
not_yet numbers held number i rising same within is =
    let any : AccountView = nothing_at number in
    not_before held any (rises_next numbers held any i rising same within is)

-- ---- lent, and back

same_number : (a b : AcctId) → a.0 ≡ b.0 → a ≡ b
same_number a b same = ap (λ (n : ℕ). record { 0 = n }) same

held_more : (held : List AccountView) (account : AccountView) (number : AcctId) → IsHeld held number → IsHeld (held ++ account ∷ []) number
held_more held account number h =
    subst (λ (ns : List AcctId). Contains ns number) (sym (map-append number_of held (account ∷ []))) (Contains-append_left (map number_of held) (account.number ∷ []) number h)

held_last : (held : List AccountView) (account : AccountView) → IsHeld (held ++ account ∷ []) account.number
held_last held account =
    subst (λ (ns : List AcctId). Contains ns account.number) (sym (map-append number_of held (account ∷ []))) (Contains-push (map number_of held) account.number)

held_cases : (held : List AccountView) (account : AccountView) (number : AcctId) → IsHeld (held ++ account ∷ []) number → IsHeld held number ⊎ (account.number ≡ number)
held_cases held account number h =
    split (Contains-append_cases (map number_of held) (account.number ∷ []) number
    (subst (λ (ns : List AcctId). Contains ns number) (map-append number_of held (account ∷ [])) h))
  where
    split : IsHeld held number ⊎ Contains (account.number ∷ []) number → IsHeld held number ⊎ (account.number ≡ number)
    split (inl prefix) = inl prefix
    split (inr (zero, within, is)) = inr is
    split (inr (suc k, within, is)) = absurd (omega arith)

-- no other account is held than before
not_more : (held : List AccountView) (account : AccountView) (number : AcctId) → (IsHeld held number → ⊥) → (number.0 ≡ account.number.0 → ⊥) → IsHeld (held ++ account ∷ []) number → ⊥
not_more held account number apart ne h = split (held_cases held account number h)
  where
    split : IsHeld held number ⊎ (account.number ≡ number) → ⊥
    split (inl there) = apart there
    split (inr is) = ne (ap rank (sym is))

-- An account that is in the pool goes.
pub lent_more : (tables : Tables) (slots : List (Option AccountView)) (held : List AccountView) (account : AccountView) → AreCheckedOut tables slots held → in_pool slots account.number ≡ Some account → account.number.0 < length slots → (IsHeld held account.number → ⊥) → AreCheckedOut tables (set slots account.number.0 None) (held ++ account ∷ [])
lent_more tables slots held account checked_out pool within apart = record {
  count = length-set slots account.number.0 None ∙ checked_out.count;
  each = λ number there. step number (checked_out.each number there) (cases_eq number.0 account.number.0);
  pooled = λ number. rest number (cases_eq number.0 account.number.0);
  own = All-push (IsOf tables) held account checked_out.own (subst (λ (slot : Option AccountView). IfSome slot (IsOf tables)) pool (checked_out.pooled account.number));
}
  where
    other : (number : AcctId) → (number.0 ≡ account.number.0 → ⊥) → in_pool (set slots account.number.0 None) number ≡ in_pool slots number
    other number ne = get_or-set_other slots account.number.0 number.0 None None ne

    gone : (number : AcctId) → number.0 ≡ account.number.0 → in_pool (set slots account.number.0 None) number ≡ None
    gone number same =
        subst (λ (n : AcctId). in_pool (set slots account.number.0 None) n ≡ None) (same_number account.number number (sym same)) (get_or-set_same slots account.number.0 None None within)

    step : (number : AcctId) → IsOutOrPooled slots held number → (number.0 ≡ account.number.0) ⊎ (number.0 ≡ account.number.0 → ⊥) → IsOutOrPooled (set slots account.number.0 None) (held ++ account ∷ []) number
    step number before (inl same) =
        inl (subst (IsHeld (held ++ account ∷ [])) (same_number account.number number (sym same)) (held_last held account), gone number same)
    step number (inl there) (inr ne) = inl (held_more held account number there.0, other number ne ∙ there.1)
    step number (inr there) (inr ne) = inr (not_more held account number there.0 ne, subst IsSome (sym (other number ne)) there.1)

    rest : (number : AcctId) → (number.0 ≡ account.number.0) ⊎ (number.0 ≡ account.number.0 → ⊥) → IfSome (in_pool (set slots account.number.0 None) number) (IsOf tables)
    rest number (inl same) = subst (λ (slot : Option AccountView). IfSome slot (IsOf tables)) (sym (gone number same)) tt
    rest number (inr ne) = subst (λ (slot : Option AccountView). IfSome slot (IsOf tables)) (sym (other number ne)) (checked_out.pooled number)

-- The last one that went comes back.
pub lent_back : (tables : Tables) (slots : List (Option AccountView)) (held : List AccountView) (account : AccountView) → AreCheckedOut tables slots (held ++ account ∷ []) → NumbersRise (held ++ account ∷ []) → account.number.0 < length slots → AreCheckedOut tables (set slots account.number.0 (Some account)) held
lent_back tables slots held account checked_out rising within = record {
  count = length-set slots account.number.0 (Some account) ∙ checked_out.count;
  each = λ number there. step number (checked_out.each number there) (cases_eq number.0 account.number.0);
  pooled = λ number. rest number (cases_eq number.0 account.number.0);
  own = popped.0;
}
  where
    popped : AreOf tables held × IsOf tables account
    popped = All-pop (IsOf tables) (held ++ account ∷ []) held (Some account) refl checked_out.own

    other : (number : AcctId) → (number.0 ≡ account.number.0 → ⊥) → in_pool (set slots account.number.0 (Some account)) number ≡ in_pool slots number
    other number ne = get_or-set_other slots account.number.0 number.0 (Some account) None ne

    here : (number : AcctId) → number.0 ≡ account.number.0 → in_pool (set slots account.number.0 (Some account)) number ≡ Some account
    here number same =
        subst (λ (n : AcctId). in_pool (set slots account.number.0 (Some account)) n ≡ Some account) (same_number account.number number (sym same))
        (get_or-set_same slots account.number.0 (Some account) None within)

    prefix : (number : AcctId) → (number.0 ≡ account.number.0 → ⊥) → IsHeld held number ⊎ (account.number ≡ number) → IsHeld held number
    prefix number ne (inl there) = there
    prefix number ne (inr is) = absurd (ne (ap rank (sym is)))

    step : (number : AcctId) → IsOutOrPooled slots (held ++ account ∷ []) number → (number.0 ≡ account.number.0) ⊎ (number.0 ≡ account.number.0 → ⊥) → IsOutOrPooled (set slots account.number.0 (Some account)) held number
    step number before (inl same) =
        inr (
          subst (λ (n : AcctId). IsHeld held n → ⊥) (same_number account.number number (sym same)) (not_before held account rising),
          subst IsSome (sym (here number same)) refl,
        )
    step number (inl there) (inr ne) = inl (prefix number ne (held_cases held account number there.0), other number ne ∙ there.1)
    step number (inr there) (inr ne) = inr (λ h. there.0 (held_more held account number h), subst IsSome (sym (other number ne)) there.1)

    rest : (number : AcctId) → (number.0 ≡ account.number.0) ⊎ (number.0 ≡ account.number.0 → ⊥) → IfSome (in_pool (set slots account.number.0 (Some account)) number) (IsOf tables)
    rest number (inl same) = subst (λ (slot : Option AccountView). IfSome slot (IsOf tables)) (sym (here number same)) popped.1
    rest number (inr ne) = subst (λ (slot : Option AccountView). IfSome slot (IsOf tables)) (sym (other number ne)) (checked_out.pooled number)

-- Where none is checked out all are in the pool.
pub lent_all_back : (tables : Tables) (slots : List (Option AccountView)) → AreCheckedOut tables slots [] → AreAllPooled slots
lent_all_back tables slots checked_out number within = by (checked_out.each number (omega (arith, within, checked_out.count)))
  where
    by : IsOutOrPooled slots [] number → IsSome (in_pool slots number)
    by (inl there) = absurd (omega arith)
    by (inr there) = there.1

-- what holds where a result is no error
pub when_ok : {A E : Type 0} (result : Result A E) (P : Type 0) → false ≡ is_err result → OnOk result P → P
when_ok (Ok done) P is holds = holds
when_ok (Err refused) P is holds = cc

-- and where it is one
pub when_err : {A E : Type 0} (result : Result A E) (P : Type 0) → true ≡ is_err result → OnErr result P → P
when_err (Ok done) P is holds = cc
when_err (Err refused) P is holds = holds

missing : (found : Option AccountView) → found ≡ None → IsSome found → ⊥
missing None is some = cc
missing (Some account) is some = cc

-- ---- one number more

-- The accounts of so many numbers are checked out, the others are in the pool.
pub record HasCheckedOut (all slots : List (Option AccountView)) (start held : List AccountView) (numbers : List AcctId) (i : ℕ) : Type 0 where
  pub count : length slots ≡ length all
  pub others : (number : AcctId) → number.0 < length all → (IsHeld held number → ⊥) → IsSome (in_pool slots number)
  pub checked_out : (tables : Tables) → AreCheckedOut tables all start → AreCheckedOut tables slots held
  pub so_far : map (λ (account : AccountView). account.number) held ≡ take i numbers

pub lent_next : (all slots : List (Option AccountView)) (start held held' : List AccountView) (numbers : List AcctId) (i : ℕ) (number : AcctId) → HasCheckedOut all slots start held numbers i → All (λ (n : AcctId). n.0 < length all) numbers → IsStrictlyIncreasing (map rank numbers) → i < length numbers → number ≡ get_or numbers i number → ((account : AccountView) → in_pool slots number ≡ Some account → (account.number ≡ number) × (held' ≡ held ++ account ∷ [])) → HasCheckedOut all (set slots number.0 None) start held' numbers (i + 1)
lent_next all slots start held held' numbers i number before known rising within is gives = by (in_pool slots number) refl
  where
    apart : IsHeld held number → ⊥
    apart = not_yet numbers held number i rising before.so_far within is

    near : number.0 < length all
    near = subst (λ (n : AcctId). n.0 < length all) (sym is) (known i number within)

    others : (account : AccountView) → account.number ≡ number → (other : AcctId) → other.0 < length all → (IsHeld (held ++ account ∷ []) other → ⊥) → (other.0 ≡ number.0) ⊎ (other.0 ≡ number.0 → ⊥) → IsSome (in_pool (set slots number.0 None) other)
    others account at other there free (inl same) =
        absurd (free (subst (IsHeld (held ++ account ∷ [])) (at ∙ same_number number other (sym same)) (held_last held account)))
    others account at other there free (inr ne) =
        subst IsSome (sym (get_or-set_other slots number.0 other.0 None None ne)) (before.others other there (λ h. free (held_more held account other h)))

    by : (found : Option AccountView) → in_pool slots number ≡ found → HasCheckedOut all (set slots number.0 None) start held' numbers (i + 1)
    by None found = absurd (missing (in_pool slots number) found (before.others number near apart))
    by (Some account) found =
        let both = gives account found in
        let at : number ≡ account.number = sym both.0 in
        record {
          count = length-set slots number.0 None ∙ before.count;
          others = λ other there. subst (λ (hs : List AccountView). (IsHeld hs other → ⊥) → IsSome (in_pool (set slots number.0 None) other)) (sym both.1)
              (λ free. others account both.0 other there free (cases_eq other.0 number.0));
          checked_out = λ tables first.
              subst (λ (hs : List AccountView). AreCheckedOut tables (set slots number.0 None) hs) (sym both.1)
              (subst (λ (n : AcctId). AreCheckedOut tables (set slots n.0 None) (held ++ account ∷ [])) both.0
              (lent_more tables slots held account (before.checked_out tables first) (subst (λ (n : AcctId). in_pool slots n ≡ Some account) at found)
              (subst (λ (n : AcctId). n.0 < length slots) at (omega (arith, near, before.count)))
              (subst (λ (n : AcctId). IsHeld held n → ⊥) at apart)));
          so_far =
              ap (map (λ (a : AccountView). a.number)) both.1
              ∙ numbers_next numbers held account i before.so_far within (subst (λ (n : AcctId). n ≡ get_or numbers i n) at is);
        }

-- an account whose turn it is is in the pool
pub still_pooled : (all slots : List (Option AccountView)) (start held : List AccountView) (numbers : List AcctId) (i : ℕ) (number : AcctId) → HasCheckedOut all slots start held numbers i → All (λ (n : AcctId). n.0 < length all) numbers → IsStrictlyIncreasing (map rank numbers) → i < length numbers → number ≡ get_or numbers i number → in_pool slots number ≡ None → ⊥
still_pooled all slots start held numbers i number before known rising within is none =
    missing (in_pool slots number) none
    (before.others number (subst (λ (n : AcctId). n.0 < length all) (sym is) (known i number within)) (not_yet numbers held number i rising before.so_far within is))

-- those that are checked out are known
pub held_within : (count : ℕ) (held : List AccountView) (numbers : List AcctId) (i : ℕ) → map (λ (account : AccountView). account.number) held ≡ take i numbers → i ≤ length numbers → All (λ (n : AcctId). n.0 < count) numbers → All (λ (account : AccountView). account.number.0 < count) held
held_within count held numbers i same within known k d there =
    let size : length held ≡ i = sym (length-map held number_of) ∙ ap length same ∙ omega (arith, length-take i numbers) in
    let is : (get_or held k d).number ≡ get_or numbers k d.number =
    sym (get_or-map number_of held k d d.number there) ∙ ap (λ (ns : List AcctId). get_or ns k d.number) same ∙ get_or-take i numbers k d.number (omega (arith, there, size)) in
    subst (λ (n : AcctId). n.0 < count) (sym is) (known k d.number (omega (arith, there, size, within)))

-- ---- a row of accounts as places, and back

-- a place is never empty where all are in the pool
pub no_empty_slot : (all slots prefix : List (Option AccountView)) (rest : List (Option AccountView)) → AreAllPooled all → all ≡ slots ++ rest → slots ≡ prefix ++ None ∷ [] → ⊥
no_empty_slot all slots prefix rest pool is last =
    let whole : all ≡ prefix ++ None ∷ rest = is ∙ ap (λ (ps : List (Option AccountView)). ps ++ rest) last ∙ append_assoc prefix (None ∷ []) rest in
    let size : length all ≡ length prefix + length (None ∷ rest) = ap length whole ∙ length-append prefix (None ∷ rest) in
    let at : get_or all (length prefix) None ≡ None = ap (λ (ps : List (Option AccountView)). get_or ps (length prefix) None) whole ∙ get_or_at prefix None rest None (length prefix) refl in
    missing (get_or all (length prefix) None) at (pool (record { 0 = length prefix }) (omega (arith, size)))

-- what holds of each account of a row, each at its place, holds of each place
each_pooled : (accounts : List AccountView) (P : AcctId → AccountView → Type 0) → AreNumbered accounts → ((number : AcctId) (account : AccountView) → slice_get accounts number.0 ≡ Some account → account.number ≡ number → P number account) → (number : AcctId) → IfSome (in_pool (map Some accounts) number) (P number)
each_pooled accounts P numbered holds number = by (cases_lt number.0 (length accounts))
  where
    any : AccountView
    any = nothing_at number

    by : (number.0 < length accounts) ⊎ (length accounts ≤ number.0) → IfSome (in_pool (map Some accounts) number) (P number)
    by (inl within) =
        subst (λ (found : Option AccountView). IfSome found (P number)) (sym (get_or-map Some accounts number.0 any None within))
        (holds number (get_or accounts number.0 any) (slice_get-get_or accounts number.0 any within)
        (same_number (get_or accounts number.0 any).number number (numbered number.0 any within)))
    by (inr past) =
        subst (λ (found : Option AccountView). IfSome found (P number)) (sym (get_or_past (map Some accounts) number.0 None (omega (arith, past, length-map accounts Some)))) tt

pub numbered_slots : (accounts : List AccountView) → AreNumbered accounts → AreUnderNumbers (map Some accounts)
numbered_slots accounts numbered =
    each_pooled accounts (λ number account. account.number ≡ number) numbered (λ number account found is. is)

-- All accounts of a row are in the pool.
pub all_pooled : (accounts : List AccountView) → AreNumbered accounts → AreCheckedOut (tables_of accounts) (map Some accounts) []
all_pooled accounts numbered = record {
  count = length-map accounts Some ∙ sym size;
  each = λ number within. inr (λ h. omega arith, subst IsSome (sym (get_or-map Some accounts number.0 (nothing_at number) None (omega (arith, within, size)))) refl);
  pooled = each_pooled accounts (λ number. IsOf (tables_of accounts)) numbered own;
  own = All-nil (IsOf (tables_of accounts));
}
  where
    size : length (tables_of accounts) ≡ length accounts
    size = length-map accounts (λ (a : AccountView). a.table)

    own : (number : AcctId) (account : AccountView) → slice_get accounts number.0 ≡ Some account → account.number ≡ number → IsOf (tables_of accounts) account
    own number account found is =
        subst (λ (n : AcctId). slice_get (tables_of accounts) n.0 ≡ Some account.table) (sym is)
        (slice_get-map (λ (a : AccountView). a.table) accounts number.0 ∙ ap (option_map (λ (a : AccountView). a.table)) found)

pub slots_numbered : (accounts : List AccountView) → AreUnderNumbers (map Some accounts) → AreNumbered accounts
slots_numbered accounts under k d within =
    let found : get_or (map Some accounts) k None ≡ Some (get_or accounts k d) = get_or-map Some accounts k d None within in
    ap rank (subst (λ (slot : Option AccountView). IfSome slot (λ (account : AccountView). account.number ≡ record { 0 = k })) found (under (record { 0 = k })))

-- The accounts that come out of the pool have its tables.
pub tables_back : (tables : Tables) (slots : List (Option AccountView)) (accounts : List AccountView) → map Some accounts ≡ slots → AreNumbered accounts → AreCheckedOut tables slots [] → tables_of accounts ≡ tables
tables_back tables slots accounts are numbered checked_out = ext_get_or no_table (tables_of accounts) tables size each
  where
    table_of : AccountView → TableId
    table_of account = account.table

    size : length (tables_of accounts) ≡ length tables
    size = length-map accounts table_of ∙ sym (length-map accounts Some) ∙ ap length are ∙ checked_out.count

    each : (i : ℕ) → i < length (tables_of accounts) → get_or (tables_of accounts) i no_table ≡ get_or tables i no_table
    each i below =
        let any : AccountView = nothing_at (record { 0 = i }) in
        let there : i < length accounts = omega (arith, below, length-map accounts table_of) in
        let account : AccountView = get_or accounts i any in
        let slot : get_or slots i None ≡ Some account = ap (λ (ps : List (Option AccountView)). get_or ps i None) (sym are) ∙ get_or-map Some accounts i any None there in
        let own : slice_get tables account.number.0 ≡ Some account.table = subst (λ (s : Option AccountView). IfSome s (IsOf tables)) slot (checked_out.pooled (record { 0 = i })) in
        let at : slice_get tables i ≡ Some account.table = subst (λ (n : ℕ). slice_get tables n ≡ Some account.table) (numbered i any there) own in
        get_or-map table_of accounts i any no_table there ∙ sym (get_or_from_slice_get tables i account.table no_table at)
