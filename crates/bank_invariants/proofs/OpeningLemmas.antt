-- A bank that opens: its state is sound, and each account has its opening balance.
use Rattle.std.proofs.Common.{◌≡◌, ℕ, zero, suc, ◌<◌, ◌≤◌, lit≤, List, [], ◌∷◌, length, get_or, Some, ℤ, pos, ◌≤ℤ◌, refl, sym, ap, ◌∙◌, arith}
use Rattle.std.specs.List.{AllByRecursion, IsDistinct, slice_get}
use Rattle.std.proofs.lemmas.Int.{ints}
use Rattle.std.proofs.lemmas.Option.{slice_get-get_or}
use Rattle.bank_model.specs.declared.setup.AccountLine.{AccountLine}
use Rattle.bank_model.specs.declared.setup.Setup.{Setup}
use Rattle.bank_model.specs.SetupForm.{IsAccountOf, IsWithinLimits}
use Rattle.bank_model.specs.SetupLookups.{line_at}
use Rattle.std.specs.Option.{IfSome}
use Rattle.bank_model.specs.Ledger.{row_of, last_row, balance_on, balance, moved, sum_from}
use Rattle.bank_model.specs.Models.{next_occurrence}
use Rattle.bank_model.specs.Rules.{opening_state}
use Rattle.bank_invariants.specs.SoundStates.{HasSource, IsSoundState}

balance_on-opened : (line : AccountLine) → balance_on [] (Some line) ≡ line.opening.0
unfolding moved sum_from
balance_on-opened line = refl

-- the balance of the account at a place, before any entry
pub balance-opened : (setup : Setup) (lines : List AccountLine) (occurrence : ℕ) (line : AccountLine) → lines ≡ setup.accounts → occurrence < length lines → line ≡ get_or lines occurrence line → line.opening ≡ record { 0 = balance setup [] (record { 0 = occurrence }) }
balance-opened setup lines occurrence line are below is =
    let found : line_at setup (record { 0 = occurrence }) ≡ Some line =
    ap (λ (l : List AccountLine). slice_get l occurrence) (sym are) ∙ slice_get-get_or lines occurrence line below ∙ ap (λ (x : AccountLine). Some x) (sym is) in
    sym (ap (λ (z : ℤ). record { 0 = z }) (ap (balance_on []) found ∙ balance_on-opened line))

not_negative : (setup : Setup) (lines : List AccountLine) (k : ℕ) → AllByRecursion (IsAccountOf setup.bank setup.users) lines → pos 0 ≤ℤ balance_on [] (slice_get lines k)
not_negative setup [] k all = omega (arith, ints)
not_negative setup (line ∷ lines) zero all = rw (balance_on-opened line) all.0.opening
not_negative setup (line ∷ lines) (suc k) all = not_negative setup lines k all.1

opening_source : (id : ℕ) → IfSome (row_of id []) (HasSource [])
unfolding row_of last_row
opening_source id = tt

opening_occurrence : (id : ℕ) → next_occurrence id [] ≤ 2958464
unfolding next_occurrence
opening_occurrence id = lit≤ tt

pub IsSoundState-opening : (setup : Setup) → IsWithinLimits setup → IsSoundState setup opening_state
unfolding IsDistinct
IsSoundState-opening setup within = record {
  numbered = λ k d below. absurd (omega arith);
  few = omega arith;
  rows = tt;
  models = tt;
  made = tt;
  lawful = λ k d below. absurd (omega arith);
  sources = λ id. opening_source id;
  reported = tt;
  occurrences = λ id some. opening_occurrence id;
  covered = λ account. not_negative setup setup.accounts account.0 within.lines.accounts;
  used = tt;
  kept = tt;
  day = (omega (arith, ints), omega (arith, ints));
}
