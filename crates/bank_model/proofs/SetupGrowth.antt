-- A setup of which the first lines are read: what one line more adds to it, and that it begins a whole setup.
use Rattle.std.proofs.Common.{◌≡◌, ℕ, ◌+◌, ◌<◌, ◌≤◌, true, false, eqb, ltb, leb, List, [], ◌∷◌, ◌++◌, length, map, codes, Option, None, Some, Ok, ℤ, pos, ◌+ℤ◌, ◌≤ℤ◌, refl, sym, ap, ◌∙◌, subst, append_assoc, arith}
use Rattle.std.specs.Prelude.{int_le}
use Rattle.std.specs.Fmt.{decimal}
use Rattle.std.specs.List.{AllByRecursion, IsDistinct}
use Rattle.std.specs.Str.{bytes_eq}
use Rattle.std.proofs.lemmas.Bool.{ltb-false, leb-false, ne_eqb}
use Rattle.std.proofs.lemmas.List.{append-nil, map-append, length-append, nil_from_length}
use Rattle.std.proofs.lemmas.List.Sums.{fold-append}
use Rattle.std.proofs.lemmas.Int.{ints}
use Rattle.ofx_types.specs.declared.account.AcctKind.TheVariants.{Checking}
use Rattle.ofx_types.specs.declared.number.Cents.{Cents}
use Rattle.ofx_types.specs.AccountForm.{same_account}
use Rattle.bank_model.specs.declared.setup.User.{User}
use Rattle.bank_model.specs.declared.setup.AccountLine.{AccountLine}
use Rattle.bank_model.specs.declared.setup.Setup.{Setup}
use Rattle.bank_model.specs.declared.setup.draft.SetupDraft.{SetupDraft}
use Rattle.bank_model.specs.SetupForm.{IsWord, line_of, user_line, account_line, lines_of, openings, IsAccountOf, IsUser, KeepsLineLimits}
use Rattle.bank_model.specs.SetupFault.{BeginSetup}
use Rattle.bank_model.specs.SetupReading.{◌>>=◌, unless, after_key, user_at, account_at, is_taken, is_repeated, openings_with, with_user, with_account, with_user_or_account, with_body_line, with_line, with_lines}
use Rattle.bank_model.proofs.SetupWords.{bind_some, unless_some, chosen_some, some_is, after_back}
use Rattle.bank_model.proofs.SetupLines.{ok_is, taken_some}
use Rattle.bank_model.proofs.SetupParts.{distinct_push, all_push, user_back, account_back}

-- ---- the lines of a setup of which some are read

abbrev pub first_line : List ℕ
first_line = line_of (codes "OFXBANK" ∷ codes "1" ∷ [])

abbrev pub bank_line : List ℕ → List ℕ
bank_line bank = line_of (codes "BANK" ∷ bank ∷ [])

abbrev pub limit_line : List ℕ → ℕ → List ℕ
limit_line key n = line_of (key ∷ decimal n ∷ [])

-- the first five lines, and others
abbrev pub under_head : Setup → List (List ℕ) → List (List ℕ)
under_head s lines = first_line ∷ bank_line s.bank ∷ limit_line (codes "LEAD") s.lead ∷ limit_line (codes "WINDOW") s.window ∷ limit_line (codes "ENTRIES") s.entries ∷ lines

-- the lines of the users and the accounts
abbrev pub body_of : List User → List AccountLine → List (List ℕ)
body_of users accounts = map user_line users ++ map (account_line users) accounts

-- the limits, as far as the lines are read
pub record Grown (d : SetupDraft) : Type 0 where
  pub bank : IsWord d.setup.bank
  pub lead : d.setup.lead ≤ 30
  pub window_low : 1 ≤ d.setup.window
  pub window_high : d.setup.window ≤ 10000
  pub entries_low : 1 ≤ d.setup.entries
  pub entries_high : d.setup.entries ≤ 9999999999
  pub users_high : length d.setup.users ≤ 1000
  pub users : AllByRecursion IsUser d.setup.users
  pub names : IsDistinct (λ (a b : User). bytes_eq a.name b.name) d.setup.users
  pub accounts_high : length d.setup.accounts ≤ 1000
  pub accounts : AllByRecursion (IsAccountOf d.setup.bank d.setup.users) d.setup.accounts
  pub numbers : IsDistinct (λ (a b : AccountLine). same_account a.name b.name) d.setup.accounts
  pub sum : d.openings.0 ≡ openings d.setup.accounts
  pub most : d.openings.0 ≤ℤ pos 9999999999999
  pub owned : 0 < length d.setup.accounts → 0 < length d.setup.users

abbrev pub more_user : SetupDraft → User → SetupDraft
more_user d u = record d { setup = record d.setup { users = d.setup.users ++ u ∷ [] } }

abbrev pub more_account : SetupDraft → AccountLine → SetupDraft
more_account d a = record { setup = record d.setup { accounts = d.setup.accounts ++ a ∷ [] }; openings = record { 0 = d.openings.0 +ℤ a.opening.0 } }

body_user : (users : List User) (accounts : List AccountLine) (u : User) → accounts ≡ [] → body_of (users ++ u ∷ []) accounts ≡ body_of users accounts ++ user_line u ∷ []
body_user users accounts u none =
    ap (body_of (users ++ u ∷ [])) none
    ∙ append-nil (map user_line (users ++ u ∷ []))
    ∙ map-append user_line users (u ∷ [])
    ∙ ap (λ (l : List (List ℕ)). l ++ user_line u ∷ []) (sym (append-nil (map user_line users)))
    ∙ ap (λ (l : List AccountLine). body_of users l ++ user_line u ∷ []) (sym none)

lines_user : (d : SetupDraft) (u : User) → d.setup.accounts ≡ [] → lines_of (more_user d u).setup ≡ lines_of d.setup ++ user_line u ∷ []
unfolding lines_of
lines_user d u none = ap (under_head d.setup) (body_user d.setup.users d.setup.accounts u none)

grown_user : (d : SetupDraft) (u : User) → Grown d → d.setup.accounts ≡ [] → length d.setup.users < 1000 → IsUser u → is_taken u.name d.setup.users ≡ false → Grown (more_user d u)
grown_user d u g none few is new = record {
  bank = g.bank;
  lead = g.lead;
  window_low = g.window_low;
  window_high = g.window_high;
  entries_low = g.entries_low;
  entries_high = g.entries_high;
  users_high = omega (arith, length-append d.setup.users (u ∷ []), few);
  users = all_push IsUser d.setup.users u g.users is;
  names = distinct_push (λ (a b : User). bytes_eq a.name b.name) d.setup.users u g.names new;
  accounts_high = g.accounts_high;
  accounts = subst (λ (l : List AccountLine). AllByRecursion (IsAccountOf d.setup.bank (d.setup.users ++ u ∷ [])) l) (sym none) tt;
  numbers = g.numbers;
  sum = g.sum;
  most = g.most;
  owned = λ _. omega (arith, length-append d.setup.users (u ∷ []));
}

body_account : (users : List User) (accounts : List AccountLine) (a : AccountLine) → body_of users (accounts ++ a ∷ []) ≡ body_of users accounts ++ account_line users a ∷ []
body_account users accounts a = ap (λ (l : List (List ℕ)). map user_line users ++ l) (map-append (account_line users) accounts (a ∷ [])) ∙ sym (append_assoc (map user_line users) (map (account_line users) accounts) (account_line users a ∷ []))

pub sum_push : (accounts : List AccountLine) (a : AccountLine) → openings (accounts ++ a ∷ []) ≡ openings accounts +ℤ a.opening.0
sum_push accounts a = fold-append (λ (sum : ℤ) (line : AccountLine). sum +ℤ line.opening.0) (pos 0) accounts (a ∷ [])

lines_account : (d : SetupDraft) (a : AccountLine) → lines_of (more_account d a).setup ≡ lines_of d.setup ++ account_line d.setup.users a ∷ []
unfolding lines_of
lines_account d a = ap (under_head d.setup) (body_account d.setup.users d.setup.accounts a)

grown_account : (d : SetupDraft) (a : AccountLine) → Grown d → 0 < length d.setup.users → length d.setup.accounts < 1000 → IsAccountOf d.setup.bank d.setup.users a → is_repeated a.name d.setup.accounts ≡ false → (d.openings.0 +ℤ a.opening.0) ≤ℤ pos 9999999999999
    → Grown (more_account d a)
grown_account d a g some few is new most = record {
  bank = g.bank;
  lead = g.lead;
  window_low = g.window_low;
  window_high = g.window_high;
  entries_low = g.entries_low;
  entries_high = g.entries_high;
  users_high = g.users_high;
  users = g.users;
  names = g.names;
  accounts_high = omega (arith, length-append d.setup.accounts (a ∷ []), few);
  accounts = all_push (IsAccountOf d.setup.bank d.setup.users) d.setup.accounts a g.accounts is;
  numbers = distinct_push (λ (a b : AccountLine). same_account a.name b.name) d.setup.accounts a g.numbers new;
  sum = ap (λ (z : ℤ). z +ℤ a.opening.0) g.sum ∙ sym (sum_push d.setup.accounts a);
  most = most;
  owned = λ _. some;
}

-- ---- a line more

-- a line more, and the limits
pub record Adds (d : SetupDraft) (line : List ℕ) (e : SetupDraft) : Type 0 where
  pub lines : lines_of e.setup ≡ lines_of d.setup ++ line ∷ []
  pub grown : Grown e

pub some_there : {A : Type 0} (xs : List A) → eqb (length xs) 0 ≡ false → 0 < length xs
some_there [] h = absurd cc
some_there (x ∷ xs) h = omega arith

with_user_adds : (d e : SetupDraft) (fields : List ℕ) → Grown d → with_user d fields ≡ Some e → Adds d (codes "USER" ++ 32 ∷ fields) e
unfolding with_user
with_user_adds d e fields g h =
    let first = unless_some (ltb 0 (length d.setup.accounts)) (unless (leb 1000 (length d.setup.users)) (user_at fields >>= λ u. unless (is_taken u.name d.setup.users) (Some (more_user d u)))) e h in
    let room = unless_some (leb 1000 (length d.setup.users)) (user_at fields >>= λ u. unless (is_taken u.name d.setup.users) (Some (more_user d u))) e first.1 in
    let user = bind_some (user_at fields) (λ u. unless (is_taken u.name d.setup.users) (Some (more_user d u))) e room.1 in
    let new = unless_some (is_taken user.0.name d.setup.users) (Some (more_user d user.0)) e user.2 in
    let none : d.setup.accounts ≡ [] = nil_from_length d.setup.accounts (omega (arith, ltb-false 0 (length d.setup.accounts) first.0)) in
    let few : length d.setup.users < 1000 = leb-false 1000 (length d.setup.users) room.0 in
    let read = user_back fields user.0 user.1 in
    subst (Adds d (codes "USER" ++ 32 ∷ fields)) (some_is (more_user d user.0) e new.1) (record {
      lines = lines_user d user.0 none ∙ ap (λ (l : List ℕ). lines_of d.setup ++ l ∷ []) (sym read.0);
      grown = grown_user d user.0 g none few read.1 new.0;
    })

most_passed : (z : ℤ) → int_le z (pos 9999999999999) ≡ true → z ≤ℤ pos 9999999999999
most_passed z h = grind (arith, ints)

with_account_adds : (d e : SetupDraft) (fields : List ℕ) → Grown d → with_account d fields ≡ Some e → Adds d (codes "ACCT" ++ 32 ∷ fields) e
unfolding with_account
with_account_adds d e fields g h =
    let more : AccountLine → Cents → SetupDraft = λ a sum. record { setup = record d.setup { accounts = d.setup.accounts ++ a ∷ [] }; openings = sum } in
    let summed : AccountLine → Option SetupDraft = λ a. openings_with d.openings a.opening >>= λ sum. Some (more a sum) in
    let fresh : AccountLine → Option SetupDraft = λ a. unless (is_repeated a.name d.setup.accounts) (summed a) in
    let read : Option SetupDraft = account_at d.setup.bank d.setup.users fields >>= fresh in
    let some = unless_some (eqb (length d.setup.users) 0) (unless (ltb 1000 (length d.setup.users)) (unless (leb 1000 (length d.setup.accounts)) read)) e h in
    let few = unless_some (ltb 1000 (length d.setup.users)) (unless (leb 1000 (length d.setup.accounts)) read) e some.1 in
    let room = unless_some (leb 1000 (length d.setup.accounts)) read e few.1 in
    let account = bind_some (account_at d.setup.bank d.setup.users fields) fresh e room.1 in
    let new = unless_some (is_repeated account.0.name d.setup.accounts) (summed account.0) e account.2 in
    let sum = bind_some (openings_with d.openings account.0.opening) (λ sum. Some (more account.0 sum)) e new.1 in
    let most = chosen_some (int_le (d.openings.0 +ℤ account.0.opening.0) (pos 9999999999999)) (more_account d account.0).openings sum.0 sum.1 in
    let found = account_back d.setup.bank d.setup.users fields account.0 account.1 in
    let made_is : more_account d account.0 ≡ e = ap (more account.0) most.1 ∙ some_is (more account.0 sum.0) e sum.2 in
    subst (Adds d (codes "ACCT" ++ 32 ∷ fields)) made_is (record {
      lines = lines_account d account.0 ∙ ap (λ (l : List ℕ). lines_of d.setup ++ l ∷ []) (sym found.0);
      grown = grown_account d account.0 g (some_there d.setup.users some.0) (leb-false 1000 (length d.setup.accounts) room.0) found.1 new.0 (most_passed _ most.0);
    })

with_body_line_adds : (d e : SetupDraft) (line : List ℕ) → Grown d → with_body_line d line ≡ Some e → Adds d line e
unfolding with_body_line
with_body_line_adds d e line g h = by_key (after_key (codes "USER") line) refl h
  where
    by_key : (found : Option (List ℕ)) → after_key (codes "USER") line ≡ found → with_user_or_account d (after_key (codes "USER") line) line ≡ Some e → Adds d line e
    by_key (Some fields) is k =
        let adds = with_user_adds d e fields g (rw is at k) in
        subst (λ (l : List ℕ). Adds d l e) (sym (after_back (codes "USER") line fields is)) adds
    by_key None is k =
        let account = bind_some (after_key (codes "ACCT") line) (with_account d) e (rw is at k) in
        let adds = with_account_adds d e account.0 g account.2 in
        subst (λ (l : List ℕ). Adds d l e) (sym (after_back (codes "ACCT") line account.0 account.1)) adds

-- after the head each line is one of the body
pub body_line : (n : ℕ) (d : SetupDraft) (line : List ℕ) → 6 ≤ n → with_line n d line ≡ with_body_line d line
unfolding with_line
body_line n d line suffix =
    let one : eqb n 1 ≡ false = ne_eqb n 1 (λ e. omega (arith, suffix, e)) in
    let two : eqb n 2 ≡ false = ne_eqb n 2 (λ e. omega (arith, suffix, e)) in
    let three : eqb n 3 ≡ false = ne_eqb n 3 (λ e. omega (arith, suffix, e)) in
    let four : eqb n 4 ≡ false = ne_eqb n 4 (λ e. omega (arith, suffix, e)) in
    let five : eqb n 5 ≡ false = ne_eqb n 5 (λ e. omega (arith, suffix, e)) in
    rw (one, two, three, four, five) refl

-- some lines more, and the limits
pub record AddsAll (d : SetupDraft) (more : List (List ℕ)) (e : SetupDraft) : Type 0 where
  pub lines : lines_of e.setup ≡ lines_of d.setup ++ more
  pub grown : Grown e

pub with_lines_adds : (n : ℕ) (d e : SetupDraft) (lines : List (List ℕ)) → 6 ≤ n → Grown d → with_lines n d lines ≡ Ok e → AddsAll d lines e
unfolding with_lines
with_lines_adds n d e [] suffix g h = subst (AddsAll d []) (ok_is d e h) (record { lines = sym (append-nil (lines_of d.setup)); grown = g })
with_lines_adds n d e (line ∷ lines) suffix g h =
    let one = taken_some n (with_line n d line) (λ next. with_lines (n + 1) next lines) e h in
    let first = with_body_line_adds d one.0 line g (sym (body_line n d line suffix) ∙ one.1) in
    let rest = with_lines_adds (n + 1) one.0 e lines (omega (arith, suffix)) first.grown one.2 in
    record { lines = rest.lines ∙ ap (λ (l : List (List ℕ)). l ++ lines) first.lines ∙ append_assoc (lines_of d.setup) (line ∷ []) lines; grown = rest.grown }

-- ---- what is read begins a setup

pub begun_prefix : (prefix more : List (List ℕ)) → BeginSetup (prefix ++ more) → BeginSetup prefix
begun_prefix prefix more b = record { setup = b.setup; limits = b.limits; more = more ++ b.more; begin = b.begin ∙ append_assoc prefix more b.more }

pub line_limits : (d : SetupDraft) → Grown d → 0 < length d.setup.accounts → KeepsLineLimits d.setup
line_limits d g some = record {
  bank = g.bank;
  lead = g.lead;
  window_low = g.window_low;
  window_high = g.window_high;
  entries_low = g.entries_low;
  entries_high = g.entries_high;
  users_low = g.owned some;
  users_high = g.users_high;
  users = g.users;
  names = g.names;
  accounts_low = some;
  accounts_high = g.accounts_high;
  accounts = g.accounts;
  numbers = g.numbers;
  sum = subst (λ (z : ℤ). z ≤ℤ pos 9999999999999) g.sum g.most;
}

-- a setup of some accounts is whole
begun_whole : (d : SetupDraft) → Grown d → 0 < length d.setup.accounts → BeginSetup (lines_of d.setup)
begun_whole d g some = record { setup = d.setup; limits = line_limits d g some; more = []; begin = sym (append-nil (lines_of d.setup)) }

pub zero_word : IsWord (codes "0")
zero_word = record { is_there = omega arith; is_within = omega arith; is_plain = refl }

-- an account that any bank may have
spare_account : List ℕ → AccountLine
spare_account bank = record { name = record { bank = bank; number = codes "0"; kind = Checking }; opening = record { 0 = pos 0 }; owners = record { 0 = 0 } ∷ [] }

spare_is : (bank : List ℕ) (users : List User) → 0 < length users → IsAccountOf bank users (spare_account bank)
unfolding spare_account IsDistinct
spare_is bank users some = record { bank = refl; number = zero_word; opening = omega (arith, ints); owned = omega arith; owners = (some, tt); once = (tt, tt) }

begun_users : (d : SetupDraft) → Grown d → 0 < length d.setup.users → d.setup.accounts ≡ [] → BeginSetup (lines_of d.setup)
unfolding spare_account
begun_users d g some none =
    let a : AccountLine = spare_account d.setup.bank in
    let few : length d.setup.accounts < 1000 = omega (arith, ap length none) in
    let new : is_repeated a.name d.setup.accounts ≡ false = ap (is_repeated a.name) none in
    let most : (d.openings.0 +ℤ pos 0) ≤ℤ pos 9999999999999 = omega (arith, ints, g.most) in
    let grown = grown_account d a g some few (spare_is d.setup.bank d.setup.users some) new most in
    let there : 0 < length (d.setup.accounts ++ a ∷ []) = omega (arith, length-append d.setup.accounts (a ∷ [])) in
    begun_prefix (lines_of d.setup) (account_line d.setup.users a ∷ []) (subst BeginSetup (lines_account d a) (begun_whole (more_account d a) grown there))

spare_user : User
spare_user = record { name = codes "0"; pass = codes "0" }

spare_user_is : IsUser spare_user
unfolding spare_user
spare_user_is = record { name = zero_word; pass = zero_word }

begun_head : (d : SetupDraft) → Grown d → d.setup.users ≡ [] → d.setup.accounts ≡ [] → BeginSetup (lines_of d.setup)
begun_head d g alone none =
    let few : length d.setup.users < 1000 = omega (arith, ap length alone) in
    let new : is_taken spare_user.name d.setup.users ≡ false = ap (is_taken spare_user.name) alone in
    let grown = grown_user d spare_user g none few spare_user_is new in
    let there : 0 < length (d.setup.users ++ spare_user ∷ []) = omega (arith, length-append d.setup.users (spare_user ∷ [])) in
    begun_prefix (lines_of d.setup) (user_line spare_user ∷ []) (subst BeginSetup (lines_user d spare_user none) (begun_users (more_user d spare_user) grown there none))

pub begun_grown : (d : SetupDraft) → Grown d → BeginSetup (lines_of d.setup)
begun_grown d g = by_accounts d.setup.accounts refl
  where
    by_users : (users : List User) → d.setup.users ≡ users → d.setup.accounts ≡ [] → BeginSetup (lines_of d.setup)
    by_users [] e none = begun_head d g e none
    by_users (u ∷ us) e none = begun_users d g (omega (arith, ap length e)) none

    by_accounts : (accounts : List AccountLine) → d.setup.accounts ≡ accounts → BeginSetup (lines_of d.setup)
    by_accounts [] e = by_users d.setup.users refl e
    by_accounts (a ∷ others) e = begun_whole d g (omega (arith, ap length e))
