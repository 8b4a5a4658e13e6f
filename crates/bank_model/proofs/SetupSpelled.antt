-- The lines of a setup are read, and so are the first ones of them.
use Rattle.std.proofs.Common.{◌≡◌, ℕ, ◌+◌, ◌^◌, ◌<◌, ◌≤◌, true, false, not, eqb, ltb, leb, List, [], ◌∷◌, ◌++◌, length, map, codes, Option, Some, Ok, ℤ, pos, ◌+ℤ◌, ◌≤ℤ◌, refl, sym, ap, ◌∙◌, subst, append_assoc, arith}
use Rattle.std.specs.Prelude.{int_le}
use Rattle.std.specs.Fmt.{decimal}
use Rattle.std.specs.List.{AllByRecursion, IsDistinct, fold}
use Rattle.std.specs.Str.{bytes_eq}
use Rattle.std.proofs.lemmas.Bool.{not_from_true, le-ltb, lt-leb, ne_eqb}
use Rattle.std.proofs.lemmas.List.{append-nil, length-append}
use Rattle.std.proofs.lemmas.List.Sums.{fold-append}
use Rattle.std.proofs.lemmas.Int.{ints}
use Rattle.ofx_types.specs.AccountForm.{same_account}
use Rattle.bank_model.specs.declared.setup.User.{User}
use Rattle.bank_model.specs.declared.setup.AccountLine.{AccountLine}
use Rattle.bank_model.specs.declared.setup.Setup.{Setup}
use Rattle.bank_model.specs.declared.setup.draft.SetupDraft.{SetupDraft}
use Rattle.bank_model.specs.SetupForm.{IsWord, user_line, account_line, lines_of, openings, IsAccountOf, IsUser, KeepsLineLimits}
use Rattle.bank_model.specs.SetupFault.{BeginSetup}
use Rattle.bank_model.specs.SetupReading.{◌>>=◌, is_word_form, bank_at, limit_at, is_taken, is_repeated, with_user, with_account, with_user_or_account, with_body_line, with_bank, with_lead, with_window, with_entries, unread, with_line, or_fault_at, with_lines}
use Rattle.bank_model.proofs.SetupWords.{is_free, after_there, after_other, word_passes, word_free}
use Rattle.bank_model.proofs.SetupNumbers.{within_there, decimal_free}
use Rattle.bank_model.proofs.SetupLines.{IsClean, ok_is, taken_some}
use Rattle.bank_model.proofs.SetupParts.{all_at, distinct_prefix, user_there, user_free, account_fields, account_line_is, account_there, account_free, free_joined}
use Rattle.bank_model.proofs.SetupGrowth.{first_line, bank_line, limit_line, body_of, sum_push, body_line}
use Rattle.bank_model.proofs.Lists.{all_append}

-- the draft of these users and these accounts
abbrev pub built : Setup → List User → List AccountLine → SetupDraft
built s users accounts = record { setup = record s { users = users; accounts = accounts }; openings = record { 0 = openings accounts } }

-- openings only grow
abbrev plus_opening : ℤ → AccountLine → ℤ
plus_opening sum line = sum +ℤ line.opening.0

sum_grows : (z : ℤ) (accounts : List AccountLine) → AllByRecursion (λ (a : AccountLine). pos 0 ≤ℤ a.opening.0) accounts → z ≤ℤ fold plus_opening z accounts
sum_grows z [] all = omega (arith, ints)
sum_grows z (a ∷ others) all = omega (arith, ints, sum_grows (z +ℤ a.opening.0) others all.1, all.0)

all_open : (bank : List ℕ) (users : List User) (accounts : List AccountLine) → AllByRecursion (IsAccountOf bank users) accounts → AllByRecursion (λ (a : AccountLine). pos 0 ≤ℤ a.opening.0) accounts
all_open bank users [] all = tt
all_open bank users (a ∷ others) all = (all.0.opening, all_open bank users others all.1)

all_prefix : {A : Type 0} (P : A → Type 0) (prefix rest : List A) → AllByRecursion P (prefix ++ rest) → AllByRecursion P prefix × AllByRecursion P rest
all_prefix P [] rest all = (tt, all)
all_prefix P (x ∷ xs) rest all = let parts = all_prefix P xs rest all.1 in ((all.0, parts.0), parts.1)

-- what some accounts open with is within the sum of all, and so is each
record SumWithin (prefix : List AccountLine) (a : AccountLine) : Type 0 where
  pub sum : (openings prefix +ℤ a.opening.0) ≤ℤ pos 9999999999999
  pub each : a.opening.0 ≤ℤ pos 9999999999999

sum_within : (prefix : List AccountLine) (a : AccountLine) (rest : List AccountLine) → AllByRecursion (λ (b : AccountLine). pos 0 ≤ℤ b.opening.0) (prefix ++ a ∷ rest) → openings (prefix ++ a ∷ rest) ≤ℤ pos 9999999999999 → SumWithin prefix a
sum_within prefix a rest all most =
    let parts = all_prefix (λ (b : AccountLine). pos 0 ≤ℤ b.opening.0) prefix (a ∷ rest) all in
    let split : openings (prefix ++ a ∷ rest) ≡ fold plus_opening (openings prefix +ℤ a.opening.0) rest = fold-append plus_opening (pos 0) prefix (a ∷ rest) in
    let low : pos 0 ≤ℤ openings prefix = sum_grows (pos 0) prefix parts.0 in
    let high : (openings prefix +ℤ a.opening.0) ≤ℤ fold plus_opening (openings prefix +ℤ a.opening.0) rest = sum_grows (openings prefix +ℤ a.opening.0) rest parts.1.1 in
    let sum : (openings prefix +ℤ a.opening.0) ≤ℤ pos 9999999999999 = omega (arith, ints, split, high, most) in
    record { sum = sum; each = omega (arith, ints, sum, low) }

most_passes : (z : ℤ) → z ≤ℤ pos 9999999999999 → int_le z (pos 9999999999999) ≡ true
most_passes z h = grind (arith, ints)

user_step : (s : Setup) (is : KeepsLineLimits s) (users : List User) (u : User) (rest : List User) → s.users ≡ users ++ u ∷ rest → with_body_line (built s users []) (user_line u) ≡ Some (built s (users ++ u ∷ []) [])
unfolding with_body_line with_user
user_step s is users u rest e =
    let all : AllByRecursion IsUser (users ++ u ∷ rest) = subst (AllByRecursion IsUser) e is.users in
    let user : IsUser u = all_at IsUser users u rest all in
    let apart : IsDistinct (λ (a b : User). bytes_eq a.name b.name) (users ++ u ∷ rest) = subst (IsDistinct (λ (a b : User). bytes_eq a.name b.name)) e is.names in
    let new : is_taken u.name users ≡ false = distinct_prefix (λ (a b : User). bytes_eq a.name b.name) users u rest apart in
    let room : leb 1000 (length users) ≡ false = lt-leb _ _ (omega (arith, is.users_high, ap length e, length-append users (u ∷ rest))) in
    ap (λ (found : Option (List ℕ)). with_user_or_account (built s users []) found (user_line u)) (after_there (codes "USER") (u.name ++ 32 ∷ u.pass) refl)
    ∙ rw (room, user_there u user, new) refl

account_step : (s : Setup) (is : KeepsLineLimits s) (accounts : List AccountLine) (a : AccountLine) (rest : List AccountLine) → s.accounts ≡ accounts ++ a ∷ rest → with_body_line (built s s.users accounts) (account_line s.users a) ≡ Some (built s s.users (accounts ++ a ∷ []))
unfolding with_body_line with_account
account_step s is accounts a rest e =
    let all : AllByRecursion (IsAccountOf s.bank s.users) (accounts ++ a ∷ rest) = subst (AllByRecursion (IsAccountOf s.bank s.users)) e is.accounts in
    let account : IsAccountOf s.bank s.users a = all_at (IsAccountOf s.bank s.users) accounts a rest all in
    let apart : IsDistinct (λ (b c : AccountLine). same_account b.name c.name) (accounts ++ a ∷ rest) = subst (IsDistinct (λ (b c : AccountLine). same_account b.name c.name)) e is.numbers in
    let new : is_repeated a.name accounts ≡ false = distinct_prefix (λ (b c : AccountLine). same_account b.name c.name) accounts a rest apart in
    let most : openings (accounts ++ a ∷ rest) ≤ℤ pos 9999999999999 = subst (λ (l : List AccountLine). openings l ≤ℤ pos 9999999999999) e is.sum in
    let within = sum_within accounts a rest (all_open s.bank s.users (accounts ++ a ∷ rest) all) most in
    let passes : int_le (openings accounts +ℤ a.opening.0) (pos 9999999999999) ≡ true = most_passes _ within.sum in
    let some : eqb (length s.users) 0 ≡ false = ne_eqb _ _ (λ none. omega (arith, is.users_low, none)) in
    let few : ltb 1000 (length s.users) ≡ false = le-ltb _ _ is.users_high in
    let room : leb 1000 (length accounts) ≡ false = lt-leb _ _ (omega (arith, is.accounts_high, ap length e, length-append accounts (a ∷ rest))) in
    let read = account_there s.bank s.users a account within.each is.users is.names in
    let next : AccountLine → ℤ → SetupDraft = λ b sum. record { setup = record s { users = s.users; accounts = accounts ++ b ∷ [] }; openings = record { 0 = sum } } in
    let taken : with_account (built s s.users accounts) (account_fields s.users a) ≡ Some (next a (openings accounts +ℤ a.opening.0)) = rw (some, few, room, read, new, passes) refl in
    ap (with_body_line (built s s.users accounts)) (account_line_is s.users a account.owned)
    ∙ ap (λ (found : Option (List ℕ)). with_user_or_account (built s s.users accounts) found (codes "ACCT" ++ 32 ∷ account_fields s.users a)) (after_other (codes "USER") (codes "ACCT") (account_fields s.users a) refl refl)
    ∙ ap (λ (found : Option (List ℕ)). found >>= with_account (built s s.users accounts)) (after_there (codes "ACCT") (account_fields s.users a) refl)
    ∙ taken
    ∙ ap (λ (sum : ℤ). Some (next a sum)) (sym (sum_push accounts a))

users_there : (n : ℕ) (s : Setup) (is : KeepsLineLimits s) (users rest : List User) (lines : List (List ℕ)) → 6 ≤ n → s.users ≡ users ++ rest → with_lines n (built s users []) (map user_line rest ++ lines) ≡ with_lines (n + length rest) (built s s.users []) lines
unfolding with_lines
users_there n s is users [] lines suffix e =
    let same : n ≡ n + 0 = omega arith in
    ap (λ (l : List User). with_lines n (built s l []) lines) (sym (e ∙ append-nil users)) ∙ ap (λ (k : ℕ). with_lines k (built s s.users []) lines) same
users_there n s is users (u ∷ rest) lines suffix e =
    let more : n + 1 + length rest ≡ n + length (u ∷ rest) = omega arith in
    ap (λ (found : Option SetupDraft). or_fault_at n found (λ next. with_lines (n + 1) next (map user_line rest ++ lines))) (body_line n (built s users []) (user_line u) suffix ∙ user_step s is users u rest e)
    ∙ users_there (n + 1) s is (users ++ u ∷ []) rest lines (omega (arith, suffix)) (e ∙ sym (append_assoc users (u ∷ []) rest))
    ∙ ap (λ (k : ℕ). with_lines k (built s s.users []) lines) more

accounts_there : (n : ℕ) (s : Setup) (is : KeepsLineLimits s) (accounts rest : List AccountLine) → 6 ≤ n → s.accounts ≡ accounts ++ rest → with_lines n (built s s.users accounts) (map (account_line s.users) rest) ≡ Ok (built s s.users s.accounts)
unfolding with_lines
accounts_there n s is accounts [] suffix e = ap (λ (l : List AccountLine). Ok (built s s.users l)) (sym (e ∙ append-nil accounts))
accounts_there n s is accounts (a ∷ rest) suffix e =
    ap (λ (found : Option SetupDraft). or_fault_at n found (λ next. with_lines (n + 1) next (map (account_line s.users) rest))) (body_line n (built s s.users accounts) (account_line s.users a) suffix ∙ account_step s is accounts a rest e)
    ∙ accounts_there (n + 1) s is (accounts ++ a ∷ []) rest (omega (arith, suffix)) (e ∙ sym (append_assoc accounts (a ∷ []) rest))

-- ---- the head is read

bank_step : (d : SetupDraft) (bank : List ℕ) → IsWord bank → with_bank d (bank_line bank) ≡ Some (record d { setup = record d.setup { bank = bank } })
unfolding with_bank bank_at
bank_step d bank word =
    let passes : not (is_word_form bank) ≡ false = not_from_true _ (word_passes bank word) in
    rw (after_there (codes "BANK") bank refl, passes) refl

limit_step : (key : List ℕ) (lowest highest n : ℕ) → is_free 32 key ≡ true → lowest ≤ n → n ≤ highest → n < 10 ^ 13 → limit_at key lowest highest (limit_line key n) ≡ Some n
unfolding limit_at
limit_step key lowest highest n free low high small = rw (after_there key (decimal n) free, within_there lowest highest n low high small) refl

head_there : (s : Setup) (is : KeepsLineLimits s) (lines : List (List ℕ)) → with_lines 1 unread (first_line ∷ bank_line s.bank ∷ limit_line (codes "LEAD") s.lead ∷ limit_line (codes "WINDOW") s.window ∷ limit_line (codes "ENTRIES") s.entries ∷ lines) ≡ with_lines 6 (built s [] []) lines
unfolding with_lines with_line with_lead with_window with_entries
head_there s is lines =
    let lead : limit_at (codes "LEAD") 0 30 (limit_line (codes "LEAD") s.lead) ≡ Some s.lead = limit_step (codes "LEAD") 0 30 s.lead refl (omega arith) is.lead (omega (arith, is.lead)) in
    let window : limit_at (codes "WINDOW") 1 10000 (limit_line (codes "WINDOW") s.window) ≡ Some s.window = limit_step (codes "WINDOW") 1 10000 s.window refl is.window_low is.window_high (omega (arith, is.window_high)) in
    let entries : limit_at (codes "ENTRIES") 1 9999999999 (limit_line (codes "ENTRIES") s.entries) ≡ Some s.entries = limit_step (codes "ENTRIES") 1 9999999999 s.entries refl is.entries_low is.entries_high (omega (arith, is.entries_high)) in
    rw (bank_step unread s.bank is.bank, lead, window, entries) refl

-- all lines of a setup are read
pub all_there : (s : Setup) → KeepsLineLimits s → with_lines 1 unread (lines_of s) ≡ Ok (built s s.users s.accounts)
unfolding lines_of
all_there s is =
    head_there s is (body_of s.users s.accounts)
    ∙ users_there 6 s is [] s.users (map (account_line s.users) s.accounts) (omega arith) refl
    ∙ accounts_there (6 + length s.users) s is [] s.accounts (omega arith) refl

-- ---- lines after others

-- what is read of lines before others, and then of those
pub record IsSplit (n : ℕ) (d : SetupDraft) (prefix rest : List (List ℕ)) (e : SetupDraft) : Type 0 where
  pub mid : SetupDraft
  pub prefix_read : with_lines n d prefix ≡ Ok mid
  pub rest_read : with_lines (n + length prefix) mid rest ≡ Ok e

pub split_read : (n : ℕ) (d e : SetupDraft) (prefix rest : List (List ℕ)) → with_lines n d (prefix ++ rest) ≡ Ok e → IsSplit n d prefix rest e
unfolding with_lines
split_read n d e [] rest h = record { mid = d; prefix_read = refl; rest_read = ap (λ (k : ℕ). with_lines k d rest) (omega arith) ∙ h }
split_read n d e (line ∷ prefix) rest h =
    let one = taken_some n (with_line n d line) (λ next. with_lines (n + 1) next (prefix ++ rest)) e h in
    let more = split_read (n + 1) one.0 e prefix rest one.2 in
    let count : n + length (line ∷ prefix) ≡ n + 1 + length prefix = omega arith in
    record {
      mid = more.mid;
      prefix_read = ap (λ (found : Option SetupDraft). or_fault_at n found (λ next. with_lines (n + 1) next prefix)) one.1 ∙ more.prefix_read;
      rest_read = ap (λ (k : ℕ). with_lines k more.mid rest) count ∙ more.rest_read;
    }

pub joined_read : (n : ℕ) (d mid : SetupDraft) (prefix rest : List (List ℕ)) → with_lines n d prefix ≡ Ok mid → with_lines n d (prefix ++ rest) ≡ with_lines (n + length prefix) mid rest
unfolding with_lines
joined_read n d mid [] rest h = ap (λ (e : SetupDraft). with_lines n e rest) (ok_is d mid h) ∙ ap (λ (k : ℕ). with_lines k mid rest) (omega arith)
joined_read n d mid (line ∷ prefix) rest h =
    let one = taken_some n (with_line n d line) (λ next. with_lines (n + 1) next prefix) mid h in
    let count : n + 1 + length prefix ≡ n + length (line ∷ prefix) = omega arith in
    ap (λ (found : Option SetupDraft). or_fault_at n found (λ next. with_lines (n + 1) next (prefix ++ rest))) one.1
    ∙ joined_read (n + 1) one.0 mid prefix rest one.2
    ∙ ap (λ (k : ℕ). with_lines k mid rest) count

-- the first lines of a setup are read
pub begun_read : (lines : List (List ℕ)) → BeginSetup lines → (d : SetupDraft) × (with_lines 1 unread lines ≡ Ok d)
begun_read lines b =
    let all : with_lines 1 unread (lines ++ b.more) ≡ Ok (built b.setup b.setup.users b.setup.accounts) = subst (λ (l : List (List ℕ)). with_lines 1 unread l ≡ Ok (built b.setup b.setup.users b.setup.accounts)) b.begin (all_there b.setup b.limits) in
    let split = split_read 1 unread (built b.setup b.setup.users b.setup.accounts) lines b.more all in
    (split.mid, split.prefix_read)

-- ---- the lines of a setup are clean

users_clean : (users : List User) → AllByRecursion IsUser users → AllByRecursion IsClean (map user_line users)
users_clean [] all = tt
users_clean (u ∷ us) all = ((user_free 10 u (omega arith) refl all.0, user_free 13 u (omega arith) refl all.0), users_clean us all.1)

accounts_clean : (s : Setup) (is : KeepsLineLimits s) (accounts rest : List AccountLine) → s.accounts ≡ accounts ++ rest → AllByRecursion IsClean (map (account_line s.users) rest)
accounts_clean s is accounts [] e = tt
accounts_clean s is accounts (a ∷ rest) e =
    let all : AllByRecursion (IsAccountOf s.bank s.users) (accounts ++ a ∷ rest) = subst (AllByRecursion (IsAccountOf s.bank s.users)) e is.accounts in
    let account : IsAccountOf s.bank s.users a = all_at (IsAccountOf s.bank s.users) accounts a rest all in
    let most : openings (accounts ++ a ∷ rest) ≤ℤ pos 9999999999999 = subst (λ (l : List AccountLine). openings l ≤ℤ pos 9999999999999) e is.sum in
    let within = sum_within accounts a rest (all_open s.bank s.users (accounts ++ a ∷ rest) all) most in (
      (account_free 10 s.bank s.users a (omega arith) refl account within.each is.users, account_free 13 s.bank s.users a (omega arith) refl account within.each is.users),
      accounts_clean s is (accounts ++ a ∷ []) rest (e ∙ sym (append_assoc accounts (a ∷ []) rest)),
    )

-- keys without spaces and line ends
limit_clean : (key : List ℕ) (n : ℕ) → IsClean key → n < 10 ^ 13 → IsClean (limit_line key n)
limit_clean key n clean small = (
  free_joined 10 (key ∷ decimal n ∷ []) refl (clean.0, (decimal_free 10 n (omega arith) small, tt)),
  free_joined 13 (key ∷ decimal n ∷ []) refl (clean.1, (decimal_free 13 n (omega arith) small, tt)),
)

pub lines_clean : (s : Setup) → KeepsLineLimits s → AllByRecursion IsClean (lines_of s)
unfolding lines_of
lines_clean s is =
    let bank : IsClean (bank_line s.bank) = (
      free_joined 10 (codes "BANK" ∷ s.bank ∷ []) refl (refl, (word_free 10 s.bank (omega arith) is.bank, tt)),
      free_joined 13 (codes "BANK" ∷ s.bank ∷ []) refl (refl, (word_free 13 s.bank (omega arith) is.bank, tt)),
    ) in
    let body = all_append IsClean (map user_line s.users) (map (account_line s.users) s.accounts) (users_clean s.users is.users) (accounts_clean s is [] s.accounts refl) in (
      (refl, refl),
      (
        bank,
        (
          limit_clean (codes "LEAD") s.lead (refl, refl) (omega (arith, is.lead)),
          (limit_clean (codes "WINDOW") s.window (refl, refl) (omega (arith, is.window_high)), (limit_clean (codes "ENTRIES") s.entries (refl, refl) (omega (arith, is.entries_high)), body)),
        ),
      ),
    )
