-- All balances together: what one account gains another loses.
use Rattle.std.proofs.Common.{◌≡◌, ℕ, zero, suc, ◌+◌, add-one, Bool, true, false, ◌&&◌, ◌||◌, not, cond, nat_lt, List, [], ◌∷◌, map, fold, length, Option, None, Some, ℤ, pos, ◌+ℤ◌, ◌-ℤ◌, refl, sym, ap, ◌∙◌, arith}
use Rattle.std.proofs.lemmas.Bool.{lt-ltb}
use Rattle.std.proofs.lemmas.Int.{ints}
use Rattle.std.proofs.lemmas.List.Folds.{fold-map}
use Rattle.std.proofs.lemmas.List.Elements.{All-head, All-tail}
use Rattle.std.proofs.lemmas.Map.Keys.{IsDistinct-head, IsDistinct-tail}
use Rattle.std.specs.Cmp.Lexicographic.{nat_list_eq_equiv}
use Rattle.std.specs.List.{All, AllByRecursion, IsDistinct, list_any, slice_get, range_with_len, position_or_len}
use Rattle.std.specs.Option.{IsSome, option_map}
use Rattle.ofx_types.specs.AccountForm.{kind_word, same_account}
use Rattle.ofx_types.specs.declared.account.AcctName.{AcctName}
use Rattle.ofx_types.specs.declared.number.AcctId.{AcctId}
use Rattle.bank_model.specs.declared.entry.Entry.{Entry}
use Rattle.bank_model.specs.declared.setup.AccountLine.{AccountLine}
use Rattle.bank_model.specs.declared.setup.Setup.{Setup}
use Rattle.bank_model.specs.SetupForm.{IsWithinLimits, openings}
use Rattle.bank_model.specs.SetupLookups.{account_of}
use Rattle.bank_model.specs.Ledger.{Posting, part, sum_from, moved, balance_on}
use Rattle.bank_transfers.specs.Together.{IsInside, balances}

-- ---- names of accounts

and_both : (a b c : Bool) → (a && b && c) ≡ true → (a ≡ true) × ((b ≡ true) × (c ≡ true))
and_both true true true e = (refl, (refl, refl))
and_both true true false e = cc
and_both true false c e = cc
and_both false b c e = cc

same_flips : (a b : AcctName) → same_account a b ≡ same_account b a
same_flips a b = rw (nat_list_eq_equiv.symm a.bank b.bank, nat_list_eq_equiv.symm a.number b.number, nat_list_eq_equiv.symm (kind_word a.kind) (kind_word b.kind)) refl

-- what one name of an account equals the other equals too
same_both : (a b other : AcctName) → same_account a b ≡ true → same_account a other ≡ same_account b other
same_both a b other same =
    let parts = and_both _ _ _ same in
    rw (nat_list_eq_equiv.congr a.bank b.bank other.bank parts.0, nat_list_eq_equiv.congr a.number b.number other.number parts.1.0, nat_list_eq_equiv.congr (kind_word a.kind) (kind_word b.kind) (kind_word other.kind) parts.1.1) refl

-- ---- sums over accounts

abbrev total : (AccountLine → ℤ) → ℤ → List AccountLine → ℤ
total f start lines = fold (λ (sum : ℤ) (line : AccountLine). sum +ℤ f line) start lines

add_apart : (a b x y : ℤ) → a +ℤ b +ℤ (x +ℤ y) ≡ a +ℤ x +ℤ (b +ℤ y)
add_apart a b x y = omega (arith, ints)

total-add : (f g : AccountLine → ℤ) (a b : ℤ) (lines : List AccountLine) → total (λ line. f line +ℤ g line) (a +ℤ b) lines ≡ total f a lines +ℤ total g b lines
total-add f g a b [] = refl
total-add f g a b (line ∷ lines) =
    ap (λ s. total (λ l. f l +ℤ g l) s lines) (add_apart a b (f line) (g line)) ∙ total-add f g (a +ℤ f line) (b +ℤ g line) lines

sub_apart : (a b x y : ℤ) → a -ℤ b +ℤ (x -ℤ y) ≡ a +ℤ x -ℤ (b +ℤ y)
sub_apart a b x y = omega (arith, ints)

total-sub : (f g : AccountLine → ℤ) (a b : ℤ) (lines : List AccountLine) → total (λ line. f line -ℤ g line) (a -ℤ b) lines ≡ total f a lines -ℤ total g b lines
total-sub f g a b [] = refl
total-sub f g a b (line ∷ lines) =
    ap (λ s. total (λ l. f l -ℤ g l) s lines) (sub_apart a b (f line) (g line)) ∙ total-sub f g (a +ℤ f line) (b +ℤ g line) lines

-- ---- an amount at one account

abbrev at_account : AcctName → ℤ → AccountLine → ℤ
at_account name amount line = cond (same_account name line.name) amount (pos 0)

add_zero : (a : ℤ) → a +ℤ pos 0 ≡ a
add_zero a = omega (arith, ints)

nowhere : (name : AcctName) (amount start : ℤ) (lines : List AccountLine) → AllByRecursion (λ (line : AccountLine). same_account name line.name ≡ false) lines → total (at_account name amount) start lines ≡ start
nowhere name amount start [] absent = refl
nowhere name amount start (line ∷ lines) absent =
    ap (λ b. total (at_account name amount) (start +ℤ cond b amount (pos 0)) lines) absent.0
    ∙ ap (λ s. total (at_account name amount) s lines) (add_zero start)
    ∙ nowhere name amount start lines absent.1

all_flipped : (name first : AcctName) (lines : List AccountLine) → same_account name first ≡ true → AllByRecursion (λ (line : AccountLine). same_account first line.name ≡ false) lines → AllByRecursion (λ (line : AccountLine). same_account name line.name ≡ false) lines
all_flipped name first [] same apart = tt
all_flipped name first (line ∷ lines) same apart = (same_both name first line.name same ∙ apart.0, all_flipped name first lines same apart.1)

once : (name : AcctName) (amount start : ℤ) (lines : List AccountLine) → IsDistinct (λ (a b : AccountLine). same_account a.name b.name) lines → list_any (λ (line : AccountLine). same_account line.name name) lines ≡ true → total (at_account name amount) start lines ≡ start +ℤ amount
once name amount start [] distinct there = cc
once name amount start (line ∷ lines) distinct there =
    let same = λ (a b : AccountLine). same_account a.name b.name in
    let apart = IsDistinct-head same line lines distinct in
    let rest = once name amount (start +ℤ pos 0) lines (IsDistinct-tail same line lines distinct) in
    (elim (same_account name line.name) as (λ b. same_account name line.name ≡ b → total (at_account name amount) (start +ℤ cond b amount (pos 0)) lines ≡ start +ℤ amount) [
      | true ↦ (λ e. nowhere name amount (start +ℤ amount) lines (all_flipped name line.name lines e apart))
      | false ↦ (λ e. rest (ap (λ b. b || list_any (λ (l : AccountLine). same_account l.name name) lines) (sym (same_flips line.name name ∙ e)) ∙ there) ∙ ap (λ s. s +ℤ amount) (add_zero start))
    ]) refl

-- ---- postings inside the bank

position_there : {A : Type 0} (p : A → Bool) (xs : List A) → nat_lt (position_or_len p xs) (length xs) ≡ list_any p xs
position_there p [] = refl
position_there {A} p (x ∷ xs) =
    let rest = position_there p xs in
    elim (p x) as (λ b. nat_lt (cond (not b) (1 + position_or_len p xs) 0) (suc (length xs)) ≡ (b || list_any p xs)) [
      | true ↦ lt-ltb 0 (suc (length xs)) (omega arith)
      | false ↦ one_less (position_or_len p xs) (length xs) ∙ rest
    ]
  where
    one_less : (m n : ℕ) → nat_lt (1 + m) (suc n) ≡ nat_lt m n
    one_less m n = grind arith

is_there : (name : AcctName) (setup : Setup) → IsSome (account_of setup name) → list_any (λ (line : AccountLine). same_account line.name name) setup.accounts ≡ true
is_there name setup is =
    let test = λ (line : AccountLine). same_account line.name name in
    sym (position_there test setup.accounts) ∙ found (nat_lt (position_or_len test setup.accounts) (length setup.accounts)) (position_or_len test setup.accounts) is
  where
    found : (b : Bool) (n : ℕ) → IsSome (option_map (λ (index : ℕ). let a : AcctId = record { 0 = index } in a) (cond b (Some n) None)) → b ≡ true
    found true n is = refl
    found false n is = cc

same_less : (a : ℤ) → pos 0 +ℤ a -ℤ (pos 0 +ℤ a) ≡ pos 0
same_less a = omega (arith, ints)

-- what a transfer inside the bank brings to all accounts together
nothing_moved : (setup : Setup) (posting : Posting) → IsDistinct (λ (a b : AccountLine). same_account a.name b.name) setup.accounts → IsInside setup posting → total (λ (line : AccountLine). part line.name posting.row) (pos 0) setup.accounts ≡ pos 0
nothing_moved setup posting distinct inside =
    let row = posting.row in
    total-sub (at_account row.to row.amount.0) (at_account row.from row.amount.0) (pos 0) (pos 0) setup.accounts
    ∙ ap (λ s. s -ℤ total (at_account row.from row.amount.0) (pos 0) setup.accounts) (once row.to row.amount.0 (pos 0) setup.accounts distinct (is_there row.to setup inside.1))
    ∙ ap (λ s. pos 0 +ℤ row.amount.0 -ℤ s) (once row.from row.amount.0 (pos 0) setup.accounts distinct (is_there row.from setup inside.0))
    ∙ same_less row.amount.0

sum_stays : (setup : Setup) (f : AccountLine → ℤ) (postings : List Posting) → IsDistinct (λ (a b : AccountLine). same_account a.name b.name) setup.accounts → All (IsInside setup) postings → total (λ (line : AccountLine). sum_from (f line) line.name postings) (pos 0) setup.accounts ≡ total f (pos 0) setup.accounts
unfolding sum_from
sum_stays setup f [] distinct inside = refl
sum_stays setup f (posting ∷ postings) distinct inside =
    sum_stays setup (λ line. f line +ℤ part line.name posting.row) postings distinct (All-tail (IsInside setup) posting postings inside)
    ∙ total-add f (λ (line : AccountLine). part line.name posting.row) (pos 0) (pos 0) setup.accounts
    ∙ ap (λ s. total f (pos 0) setup.accounts +ℤ s) (nothing_moved setup posting distinct (All-head (IsInside setup) posting postings inside))
    ∙ add_zero (total f (pos 0) setup.accounts)

-- ---- accounts by number

shifted : (line : AccountLine) (lines : List AccountLine) (a n : ℕ) → map (slice_get (line ∷ lines)) (range_with_len (a + 1) n) ≡ map (slice_get lines) (range_with_len a n)
shifted line lines a zero = refl
shifted line lines a (suc n) = rw add-one (ap (λ ls. slice_get lines a ∷ ls) (rw (← add-one) (shifted line lines (a + 1) n)))

each_index : (lines : List AccountLine) → map (slice_get lines) (range_with_len 0 (length lines)) ≡ map (λ (line : AccountLine). Some line) lines
each_index [] = refl
each_index (line ∷ lines) = ap (λ ls. Some line ∷ ls) (shifted line lines 0 (length lines) ∙ each_index lines)

by_number : (g : Option AccountLine → ℤ) (lines : List AccountLine) → fold (λ (sum : ℤ) (account : AcctId). sum +ℤ g (slice_get lines account.0)) (pos 0) (map (λ (index : ℕ). record { 0 = index }) (range_with_len 0 (length lines))) ≡ total (λ line. g (Some line)) (pos 0) lines
by_number g lines =
    fold-map (λ (sum : ℤ) (account : AcctId). sum +ℤ g (slice_get lines account.0)) (λ (index : ℕ). record { 0 = index }) (pos 0) (range_with_len 0 (length lines))
    ∙ sym (fold-map (λ (sum : ℤ) (line : Option AccountLine). sum +ℤ g line) (slice_get lines) (pos 0) (range_with_len 0 (length lines)))
    ∙ ap (fold (λ (sum : ℤ) (line : Option AccountLine). sum +ℤ g line) (pos 0)) (each_index lines)
    ∙ fold-map (λ (sum : ℤ) (line : Option AccountLine). sum +ℤ g line) (λ (line : AccountLine). Some line) (pos 0) lines

pub balances_stay : (setup : Setup) (entries : List Entry) → IsWithinLimits setup → All (IsInside setup) (moved entries) → balances setup entries ≡ openings setup.accounts
balances_stay setup entries limits inside =
    by_number (balance_on entries) setup.accounts
    ∙ sum_stays setup (λ line. line.opening.0) (moved entries) limits.lines.numbers inside
