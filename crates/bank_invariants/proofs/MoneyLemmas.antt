-- Money that a posting moves between two accounts, and what an account may have at most.
use Rattle.std.proofs.Common.{◌≡◌, ◌≢◌, ℕ, zero, suc, ◌+◌, ◌<◌, ◌≤◌, Bool, true, false, cond, eqb, ltb, fold, List, [], ◌∷◌, ◌++◌, length, map, Option, None, Some, ℤ, pos, ◌+ℤ◌, ◌-ℤ◌, ◌≤ℤ◌, refl, sym, ap, ◌∙◌, arith}
use Rattle.std.specs.List.{All, AllByRecursion, range_with_len, slice_get}
use Rattle.std.specs.Option.{IfSome}
use Rattle.std.proofs.lemmas.Bool.{eqb-true, eq-eqb, ltb-true, ltb-false, false_from_ne_true, true≢false}
use Rattle.std.proofs.lemmas.Int.{ints}
use Rattle.std.proofs.lemmas.List.Elements.{All-append, All-cons, All-nil}
use Rattle.ofx_types.specs.AccountForm.{same_account}
use Rattle.ofx_types.specs.declared.account.AcctName.{AcctName}
use Rattle.ofx_types.specs.declared.number.AcctId.{AcctId}
use Rattle.ofx_types.specs.declared.transfer.TransferRow.{TransferRow}
use Rattle.bank_model.specs.declared.entry.Entry.{Entry}
use Rattle.bank_model.specs.declared.setup.AccountLine.{AccountLine}
use Rattle.bank_model.specs.declared.setup.Setup.{Setup}
use Rattle.bank_model.specs.declared.event.State.{State}
use Rattle.bank_model.specs.SetupForm.{IsWithinLimits, openings}
use Rattle.bank_model.specs.SetupLookups.{account_of, line_at}
use Rattle.bank_model.specs.Ledger.{row_in, is_posted, posting_of, moved, balance}
use Rattle.bank_model.proofs.SetupWords.{some_is}
use Rattle.bank_transfers.specs.Together.{balances, IsInside}
use Rattle.bank_transfers.proofs.TogetherLemmas.{balances_stay}
use Rattle.bank_invariants.specs.SoundStates.{IsSoundRow, HasSoundRow, IsSoundState}
use Rattle.bank_invariants.proofs.AccountIndices.{account_of-line, line_of-account}
use Rattle.bank_invariants.proofs.LedgerSteps.{Posts, balance-posted}
use Rattle.bank_model.proofs.AccountNames.{same_account-is, same_account-self, same_number}

-- ---- the balances after a posting

-- the account of a name is where the name stands
same_offset : (setup : Setup) (name : AcctName) (occurrence account : AcctId) (line : AccountLine) (b : Bool) → same_account name line.name ≡ b → IsWithinLimits setup → account_of setup name ≡ Some occurrence → line_at setup account ≡ Some line → b ≡ eqb account.0 occurrence.0
same_offset setup name occurrence account line true same within found at =
    let is : name ≡ line.name = same_account-is name line.name same in
    let here : Some occurrence ≡ Some account = sym found ∙ ap (account_of setup) is ∙ account_of-line setup account line within at in
    let one : occurrence ≡ account = some_is occurrence account here in
    sym (eq-eqb account.0 occurrence.0 (sym (ap (λ (a : AcctId). a.0) one)))
same_offset setup name occurrence account line false same within found at =
    sym (false_from_ne_true (eqb account.0 occurrence.0) (λ equal.
    let one : account ≡ occurrence = same_number account occurrence (eqb-true account.0 occurrence.0 equal) in
    let there = line_of-account setup name occurrence found in
    let line_is : Some there.0 ≡ Some line = sym there.1 ∙ ap (line_at setup) (sym one) ∙ at in
    let lines : there.0 ≡ line = some_is there.0 line line_is in
    let names : name ≡ line.name = sym there.2 ∙ ap (λ (l : AccountLine). l.name) lines in
    let self : same_account name line.name ≡ true = ap (same_account name) (sym names) ∙ same_account-self name in
    true≢false (sym self ∙ same)))

-- an account that the setup hasn't isn't a name's
no_index : (setup : Setup) (name : AcctName) (occurrence account : AcctId) → account_of setup name ≡ Some occurrence → line_at setup account ≡ None → eqb account.0 occurrence.0 ≡ false
no_index setup name occurrence account found none =
    false_from_ne_true (eqb account.0 occurrence.0) (λ equal.
    let one : account ≡ occurrence = same_number account occurrence (eqb-true account.0 occurrence.0 equal) in
    let there = line_of-account setup name occurrence found in
    let both : None ≡ Some there.0 = sym none ∙ ap (line_at setup) one ∙ there.1 in
    cc)

abbrev pub shift : ℤ → AcctId → AcctId → AcctId → ℤ
shift amount from to account = cond (eqb account.0 to.0) amount (pos 0) -ℤ cond (eqb account.0 from.0) amount (pos 0)

pub plus_nothing : (b : ℤ) (into out : Bool) (amount : ℤ) → into ≡ false → out ≡ false → b ≡ b +ℤ (cond into amount (pos 0) -ℤ cond out amount (pos 0))
plus_nothing b into out amount no_into no_out = rw (no_into, no_out) (omega (arith, ints))

posted_line : (setup : Setup) (entries : List Entry) (entry : Entry) (row : TransferRow) (from to account : AcctId) (line : Option AccountLine) → IsWithinLimits setup → Posts entry row → account_of setup row.from ≡ Some from → account_of setup row.to ≡ Some to → line_at setup account ≡ line → balance setup (entries ++ entry ∷ []) account ≡ balance setup entries account +ℤ shift row.amount.0 from to account
posted_line setup entries entry row from to account None within posts source target at =
    rw at (plus_nothing (pos 0) (eqb account.0 to.0) (eqb account.0 from.0) row.amount.0 (no_index setup row.to to account target at) (no_index setup row.from from account source at))
posted_line setup entries entry row from to account (Some line) within posts source target at =
    let into : same_account row.to line.name ≡ eqb account.0 to.0 = same_offset setup row.to to account line (same_account row.to line.name) refl within target at in
    let out : same_account row.from line.name ≡ eqb account.0 from.0 = same_offset setup row.from from account line (same_account row.from line.name) refl within source at in
    balance-posted setup entries entry row account line posts at
    ∙ ap (λ (b : Bool). balance setup entries account +ℤ (cond b row.amount.0 (pos 0) -ℤ cond (same_account row.from line.name) row.amount.0 (pos 0))) into
    ∙ ap (λ (b : Bool). balance setup entries account +ℤ (cond (eqb account.0 to.0) row.amount.0 (pos 0) -ℤ cond b row.amount.0 (pos 0))) out

-- A posting takes its amount from its source and brings it to its destination.
pub balance-moved : (setup : Setup) (entries : List Entry) (entry : Entry) (row : TransferRow) (from to account : AcctId) → IsWithinLimits setup → Posts entry row → account_of setup row.from ≡ Some from → account_of setup row.to ≡ Some to → balance setup (entries ++ entry ∷ []) account ≡ balance setup entries account +ℤ shift row.amount.0 from to account
balance-moved setup entries entry row from to account within posts source target =
    posted_line setup entries entry row from to account (line_at setup account) within posts source target refl

-- ---- what an account may have at most

inside_some : (setup : Setup) (number : ℕ) (row : TransferRow) (b : Bool) → IsSoundRow setup row → All (IsInside setup) (cond b (record { number = number; row = row } ∷ []) [])
inside_some setup number row true sound = All-cons (IsInside setup) _ [] (sound.from, sound.to) (All-nil (IsInside setup))
inside_some setup number row false sound = All-nil (IsInside setup)

inside_row : (setup : Setup) (number : ℕ) (row : Option TransferRow) → IfSome row (IsSoundRow setup) → All (IsInside setup) (posting_of number row)
inside_row setup number None sound = All-nil (IsInside setup)
inside_row setup number (Some row) sound = inside_some setup number row (is_posted row.code) sound

pub inside_all : (setup : Setup) (entries : List Entry) → AllByRecursion (HasSoundRow setup) entries → All (IsInside setup) (moved entries)
unfolding moved
inside_all setup [] sound = All-nil (IsInside setup)
inside_all setup (entry ∷ entries) sound =
    All-append (IsInside setup) (posting_of entry.number (row_in entry.change)) _ (inside_row setup entry.number (row_in entry.change) sound.0) (inside_all setup entries sound.1)

sum_least : (f : AcctId → ℤ) → ((a : AcctId) → pos 0 ≤ℤ f a) → (start : ℤ) (ids : List AcctId) → start ≤ℤ fold (λ (sum : ℤ) (a : AcctId). sum +ℤ f a) start ids
sum_least f positive start [] = omega (arith, ints)
sum_least f positive start (a ∷ ids) =
    let rest = sum_least f positive (start +ℤ f a) ids in
    let here = positive a in
    omega (arith, ints)

sum_member : (f : AcctId → ℤ) → ((a : AcctId) → pos 0 ≤ℤ f a) → (low count : ℕ) (start : ℤ) (a : AcctId) → pos 0 ≤ℤ start → low ≤ a.0 → a.0 < low + count → f a ≤ℤ fold (λ (sum : ℤ) (b : AcctId). sum +ℤ f b) start (map (λ (occurrence : ℕ). record { 0 = occurrence }) (range_with_len low count))
sum_member f positive low zero start a some from below = absurd (omega arith)
sum_member f positive low (suc count) start a some from below =
    let here = positive (record { 0 = low }) in
    member_at f positive low start a (map (λ (occurrence : ℕ). record { 0 = occurrence }) (range_with_len (low + 1) count)) some
    (λ other. sum_member f positive (low + 1) count (start +ℤ f (record { 0 = low })) a (omega (arith, ints)) (omega arith) (omega arith))
    (eqb low a.0) refl
  where
    member_at : (f : AcctId → ℤ) → ((a : AcctId) → pos 0 ≤ℤ f a) → (low : ℕ) (start : ℤ) (a : AcctId) (ids : List AcctId) → pos 0 ≤ℤ start → (low ≢ a.0 → f a ≤ℤ fold (λ (sum : ℤ) (c : AcctId). sum +ℤ f c) (start +ℤ f (record { 0 = low })) ids) → (b : Bool) → eqb low a.0 ≡ b → f a ≤ℤ fold (λ (sum : ℤ) (c : AcctId). sum +ℤ f c) (start +ℤ f (record { 0 = low })) ids
    member_at f positive low start a ids some later true is =
        let one : f (record { 0 = low }) ≡ f a = ap f (same_number (record { 0 = low }) a (eqb-true low a.0 is)) in
        let least = sum_least f positive (start +ℤ f (record { 0 = low })) ids in
        omega (arith, ints)
    member_at f positive low start a ids some later false is = later (λ same. true≢false (sym (eq-eqb low a.0 same) ∙ is))

none_beyond : (setup : Setup) (entries : List Entry) (account : AcctId) (line : Option AccountLine) → line_at setup account ≡ line → (account.0 < length setup.accounts → ⊥) → balance setup entries account ≡ pos 0
none_beyond setup entries account None at beyond = rw at refl
none_beyond setup entries account (Some line) at beyond = absurd (beyond (below_line setup.accounts account.0 line at))
  where
    below_line : (lines : List AccountLine) (k : ℕ) (line : AccountLine) → slice_get lines k ≡ Some line → k < length lines
    below_line [] k line found = absurd cc
    below_line (first ∷ lines) zero line found = omega arith
    below_line (first ∷ lines) (suc k) line found = let less = below_line lines k line found in omega arith

-- No account has more than all openings together.
pub balance-most : (setup : Setup) (S : State) (account : AcctId) → IsWithinLimits setup → IsSoundState setup S → balance setup S.entries account ≤ℤ pos 9999999999999
balance-most setup S account within sound = most_at (ltb account.0 (length setup.accounts)) refl
  where
    most_at : (b : Bool) → ltb account.0 (length setup.accounts) ≡ b → balance setup S.entries account ≤ℤ pos 9999999999999
    most_at true is =
        let below : account.0 < length setup.accounts = ltb-true account.0 (length setup.accounts) is in
        let all : balances setup S.entries ≡ openings setup.accounts = balances_stay setup S.entries within (inside_all setup S.entries sound.rows) in
        let one : balance setup S.entries account ≤ℤ balances setup S.entries =
        sum_member (balance setup S.entries) sound.covered 0 (length setup.accounts) (pos 0) account (omega (arith, ints)) (omega arith) (omega arith) in
        let most : openings setup.accounts ≤ℤ pos 9999999999999 = within.lines.sum in
        omega (arith, ints)
    most_at false is =
        let none = none_beyond setup S.entries account (line_at setup account) refl (λ below. let least = ltb-false account.0 (length setup.accounts) is in omega arith) in
        rw none (omega (arith, ints))
