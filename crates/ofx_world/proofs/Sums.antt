-- What comes of a rehearsal, summed one after another, and all balances together.
use Rattle.std.proofs.Common.{◌≡◌, ℕ, suc, ◌+◌, ◌-◌, ◌<◌, Bool, true, false, cond, List, [], ◌∷◌, ◌++◌, length, fold, map, take, get_or, refl, sym, ap, subst, arith, ◌∙◌}
use Rattle.std.proofs.lemmas.List.{take_more, length-append}
use Rattle.std.proofs.lemmas.List.Elements.{filter-append, All-tail}
use Rattle.std.proofs.lemmas.List.Sums.{fold-append}
use Rattle.std.specs.Prelude.{ℤ, pos, ◌+ℤ◌, slice_index_or, All, filter}
use Rattle.std.specs.List.{range_with_len}
use Rattle.ofx_types.specs.declared.number.AcctId.{AcctId}
use Rattle.ofx_types.specs.declared.number.Cents.{Cents}
use Rattle.bank_accounts.specs.AccountView.{AccountView}
use Rattle.bank_model.specs.Ledger.{balance}
use Rattle.bank_model.specs.Stores.{Store}
use Rattle.bank_model.specs.declared.event.State.{State}
use Rattle.bank_model.specs.declared.setup.Setup.{Setup}
use Rattle.bank_solo.specs.Solo.{AreAccountsIn}
use Rattle.bank_invariants.proofs.Named.{numbered}
use Rattle.bank_transfers.specs.Together.{balances}
use Rattle.ofx_world.specs.Customer.{CustomerView}
use Rattle.ofx_world.specs.Rehearsal.{files_made, is_lost, lost_among, stores_lost, sum_among}

-- ---- one more

-- One more of a list is summed last.
fold_more : {A B : Type 0} (f : B → A → B) (base : B) (xs : List A) (i : ℕ) (x : A) → i < length xs → get_or xs i x ≡ x → fold f base (take (i + 1) xs) ≡ f (fold f base (take i xs)) x
fold_more f base xs i x below here =
    ap (fold f base) (take_more xs i x below ∙ ap (λ y. take i xs ++ y ∷ []) here) ∙ fold-append f base (take i xs) (x ∷ [])

pub files_more : (customers : List CustomerView) (i : ℕ) (customer : CustomerView) → i < length customers → get_or customers i customer ≡ customer → files_made (take (i + 1) customers) ≡ files_made (take i customers) + (customer.client.next - 1)
files_more customers i customer below here =
    fold_more (λ (sum : ℕ) (c : CustomerView). sum + (c.client.next - 1)) 0 customers i customer below here

pub stores_more : (customers : List CustomerView) (i : ℕ) (customer : CustomerView) → i < length customers → get_or customers i customer ≡ customer → stores_lost (take (i + 1) customers) ≡ stores_lost (take i customers) + lost_among customer.client.stores
stores_more customers i customer below here =
    fold_more (λ (sum : ℕ) (c : CustomerView). sum + lost_among c.client.stores) 0 customers i customer below here

pub sum_more : (accounts : List AccountView) (i : ℕ) (account : AccountView) → i < length accounts → get_or accounts i account ≡ account → sum_among (take (i + 1) accounts) ≡ sum_among (take i accounts) +ℤ account.balance.0
sum_more accounts i account below here =
    fold_more (λ (sum : ℤ) (a : AccountView). sum +ℤ a.balance.0) (pos 0) accounts i account below here

one_lost : (store : Store) (b : Bool) → store.is_lost ≡ b → length (filter is_lost (store ∷ [])) ≡ cond b 1 0
one_lost store b is = ap (λ (lost : Bool). length (cond lost (store ∷ []) [])) is ∙ counted b
  where
    counted : (lost : Bool) → length (cond lost (store ∷ []) []) ≡ cond lost 1 0
    counted true = refl
    counted false = refl

lost_more : (stores : List Store) (i : ℕ) (store : Store) (b : Bool) → i < length stores → get_or stores i store ≡ store → store.is_lost ≡ b → lost_among (take (i + 1) stores) ≡ lost_among (take i stores) + cond b 1 0
lost_more stores i store b below here is =
    ap (λ (s : List Store). length (filter is_lost s)) (take_more stores i store below ∙ ap (λ (y : Store). take i stores ++ y ∷ []) here)
    ∙ (ap length (filter-append is_lost (take i stores) (store ∷ []))
    ∙ (length-append (filter is_lost (take i stores)) (filter is_lost (store ∷ []))
    ∙ ap (λ (n : ℕ). lost_among (take i stores) + n) (one_lost store b is)))

pub lost_one : (stores : List Store) (i : ℕ) (store : Store) → i < length stores → get_or stores i store ≡ store → store.is_lost ≡ true → lost_among (take (i + 1) stores) ≡ lost_among (take i stores) + 1
lost_one stores i store below here is = lost_more stores i store true below here is

pub lost_none : (stores : List Store) (i : ℕ) (store : Store) → i < length stores → get_or stores i store ≡ store → store.is_lost ≡ false → lost_among (take (i + 1) stores) ≡ lost_among (take i stores)
lost_none stores i store below here is = lost_more stores i store false below here is ∙ omega arith

-- ---- all balances

abbrev with_balance : Setup → State → ℤ → AcctId → ℤ
with_balance setup state sum account = sum +ℤ balance setup state.entries account

-- An account has the balance that its number has in the state.
abbrev IsKept : Setup → State → AccountView → Type 0
IsKept setup state account = account.balance ≡ record { 0 = balance setup state.entries account.number }

number_of : (account : AcctId) (n : ℕ) → account.0 ≡ n → account ≡ numbered n
number_of account n is = ap numbered is

-- Accounts that are numbered from one on have together what their numbers have in the state.
sums_from : (setup : Setup) (state : State) (n : ℕ) (accounts : List AccountView) (base : ℤ) → ((k : ℕ) (d : AccountView) → k < length accounts → (slice_index_or accounts k d).number.0 ≡ n + k) → All (IsKept setup state) accounts → fold (λ (sum : ℤ) (a : AccountView). sum +ℤ a.balance.0) base accounts ≡ fold (with_balance setup state) base (map numbered (range_with_len n (length accounts)))
sums_from setup state n [] base are balanced = refl
sums_from setup state n (account ∷ accounts) base are balanced =
    let here : account.number ≡ numbered n = number_of account.number n (are 0 account (omega arith) ∙ omega arith) in
    let own : account.balance.0 ≡ balance setup state.entries (numbered n) =
    ap (λ (b : Cents). b.0) (balanced 0 account (omega arith)) ∙ ap (λ (a : AcctId). balance setup state.entries a) here in
    let later : (k : ℕ) (d : AccountView) → k < length accounts → (slice_index_or accounts k d).number.0 ≡ (n + 1) + k =
    λ k d below. are (suc k) d (omega arith) ∙ omega arith in
    ap (λ (b : ℤ). fold (λ (sum : ℤ) (a : AccountView). sum +ℤ a.balance.0) b accounts) (ap (λ (x : ℤ). base +ℤ x) own)
    ∙ sums_from setup state (n + 1) accounts (base +ℤ balance setup state.entries (numbered n)) later (All-tail (IsKept setup state) account accounts balanced)

-- All accounts of a bank have together what its rules say.
pub all_together : (setup : Setup) (state : State) (accounts : List AccountView) → AreAccountsIn setup state accounts → sum_among accounts ≡ balances setup state.entries
all_together setup state accounts are =
    sums_from setup state 0 accounts (pos 0) (λ k d below. are.numbered k d below ∙ omega arith) are.balanced
    ∙ ap (λ (n : ℕ). fold (with_balance setup state) (pos 0) (map numbered (range_with_len 0 n))) are.count
