-- An account name is at one place among the accounts of a setup.
use Rattle.std.proofs.Common.{◌≡◌, ℕ, zero, suc, ◌<◌, false, List, [], ◌∷◌, length, get_or, Option, None, Some, pos, refl, ap, arith}
use Rattle.std.specs.Prelude.{position}
use Rattle.std.specs.List.{AllByRecursion, IsDistinct, position_or_len, slice_get}
use Rattle.std.proofs.lemmas.Bool.{lt-ltb}
use Rattle.std.proofs.lemmas.List.Quantifiers.{position-Some}
use Rattle.std.proofs.lemmas.Option.{get_or_from_slice_get, slice_get-get_or}
use Rattle.ofx_types.specs.AccountForm.{same_account}
use Rattle.ofx_types.specs.declared.account.AcctName.{AcctName}
use Rattle.ofx_types.specs.declared.number.AcctId.{AcctId}
use Rattle.std.specs.Option.{option_map}
use Rattle.bank_model.specs.declared.setup.AccountLine.{AccountLine}
use Rattle.bank_model.specs.declared.setup.Setup.{Setup}
use Rattle.bank_model.specs.SetupForm.{IsWithinLimits}
use Rattle.bank_model.specs.SetupLookups.{account_of, line_at}
use Rattle.bank_model.proofs.SetupWords.{some_is}
use Rattle.bank_model.proofs.AccountNames.{same_account-self, same_account-is}

-- ---- places

pub slice_get-below : {X : Type 0} (xs : List X) (i : ℕ) (x : X) → slice_get xs i ≡ Some x → i < length xs
slice_get-below [] i x found = absurd cc
slice_get-below (y ∷ xs) zero x found = omega arith
slice_get-below (y ∷ xs) (suc i) x found = let less = slice_get-below xs i x found in omega arith

abbrev IsOnce : List AccountLine → Type 0
IsOnce lines = IsDistinct (λ (a b : AccountLine). same_account a.name b.name) lines

apart_at : (line : AccountLine) (lines : List AccountLine) (k : ℕ) (d : AccountLine) → k < length lines → AllByRecursion (λ (other : AccountLine). same_account line.name other.name ≡ false) lines → same_account line.name (get_or lines k d).name ≡ false
apart_at line [] k d below all = absurd (omega arith)
apart_at line (first ∷ lines) zero d below all = all.0
apart_at line (first ∷ lines) (suc k) d below all = apart_at line lines k d (omega arith) all.1

occurrence_at : (lines : List AccountLine) (k : ℕ) (d : AccountLine) → IsOnce lines → k < length lines → position_or_len (λ (line : AccountLine). same_account line.name (get_or lines k d).name) lines ≡ k
unfolding IsDistinct
occurrence_at [] k d once below = absurd (omega arith)
occurrence_at (line ∷ lines) zero d once below = rw (same_account-self line.name) refl
occurrence_at (line ∷ lines) (suc k) d once below =
    let less : k < length lines = omega arith in
    rw (apart_at line lines k d less once.0, occurrence_at lines k d once.1 less) (omega arith)

abbrev id_at : ℕ → AcctId
id_at occurrence = record { 0 = occurrence }

-- the account of a line's name is the line's
pub account_of-line : (setup : Setup) (a : AcctId) (line : AccountLine) → IsWithinLimits setup → line_at setup a ≡ Some line → account_of setup line.name ≡ Some a
account_of-line setup a line within found =
    let below : a.0 < length setup.accounts = slice_get-below setup.accounts a.0 line found in
    let is : get_or setup.accounts a.0 line ≡ line = get_or_from_slice_get setup.accounts a.0 line line found in
    let occurrence = occurrence_at setup.accounts a.0 line within.lines.numbers below in
    let here : position_or_len (λ (other : AccountLine). same_account other.name line.name) setup.accounts ≡ a.0 = rw is at occurrence in
    rw (here, lt-ltb _ _ below) refl

occurrence_of : (found : Option ℕ) (a : AcctId) → option_map id_at found ≡ Some a → found ≡ Some a.0
occurrence_of None a h = absurd cc
occurrence_of (Some n) a h = ap (λ (u : AcctId). Some u.0) (some_is (id_at n) a h)

-- an account of the setup has a line, which has its name
pub line_of-account : (setup : Setup) (name : AcctName) (a : AcctId) → account_of setup name ≡ Some a → (line : AccountLine) × (line_at setup a ≡ Some line) × (line.name ≡ name)
line_of-account setup name a found =
    let nobody : AccountLine = record { name = name; opening = record { 0 = pos 0 }; owners = [] } in
    let at = position-Some (λ (line : AccountLine). same_account line.name name) setup.accounts a.0 nobody (occurrence_of (position (λ (line : AccountLine). same_account line.name name) setup.accounts) a found) in
    (get_or setup.accounts a.0 nobody, slice_get-get_or setup.accounts a.0 nobody at.0, same_account-is _ _ at.1)
