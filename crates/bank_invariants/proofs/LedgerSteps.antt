-- What one entry more does to the postings and the balances.
use Rattle.std.proofs.Common.{◌≡◌, Bool, true, false, cond, List, [], ◌∷◌, ◌++◌, Option, None, Some, ℤ, pos, ◌+ℤ◌, ◌-ℤ◌, ◌≤ℤ◌, refl, sym, ap, ◌∙◌, arith}
use Rattle.std.proofs.lemmas.List.{append-nil}
use Rattle.std.proofs.lemmas.List.Sums.{fold-append}
use Rattle.std.proofs.lemmas.Grind.{flat_map-append}
use Rattle.std.proofs.lemmas.Int.{ints}
use Rattle.ofx_types.specs.AccountForm.{same_account}
use Rattle.ofx_types.specs.declared.account.AcctName.{AcctName}
use Rattle.ofx_types.specs.declared.number.AcctId.{AcctId}
use Rattle.ofx_types.specs.declared.transfer.TransferRow.{TransferRow}
use Rattle.bank_model.specs.declared.entry.Entry.{Entry}
use Rattle.bank_model.specs.declared.setup.AccountLine.{AccountLine}
use Rattle.bank_model.specs.declared.setup.Setup.{Setup}
use Rattle.bank_model.specs.SetupForm.{IsWithinLimits}
use Rattle.bank_model.specs.SetupLookups.{account_of, line_at}
use Rattle.bank_model.specs.Ledger.{Posting, row_in, posting_of, moved, part, sum_from, balance_on, balance}
use Rattle.bank_invariants.proofs.AccountIndices.{account_of-line}
use Rattle.bank_transfers.proofs.GrowthLemmas.{moved-push}
use Rattle.bank_model.proofs.SetupWords.{some_is}
use Rattle.bank_model.proofs.AccountNames.{same_account-is}

-- what entries move, and what those after them do
pub moved-append : (entries more : List Entry) → moved (entries ++ more) ≡ moved entries ++ moved more
unfolding moved
moved-append entries more = flat_map-append (λ (entry : Entry). posting_of entry.number (row_in entry.change)) entries more

-- ---- an entry that posts nothing

abbrev pub PostsNothing : Entry → Type 0
PostsNothing entry = posting_of entry.number (row_in entry.change) ≡ []

pub moved-kept : (entries : List Entry) (entry : Entry) → PostsNothing entry → moved (entries ++ entry ∷ []) ≡ moved entries
moved-kept entries entry nothing = moved-push entries entry ∙ ap (λ (l : List Posting). moved entries ++ l) nothing ∙ append-nil (moved entries)

balance_on-kept : (entries : List Entry) (entry : Entry) (line : Option AccountLine) → PostsNothing entry → balance_on (entries ++ entry ∷ []) line ≡ balance_on entries line
balance_on-kept entries entry None nothing = refl
balance_on-kept entries entry (Some line) nothing = ap (sum_from line.opening.0 line.name) (moved-kept entries entry nothing)

pub balance-kept : (setup : Setup) (entries : List Entry) (entry : Entry) (account : AcctId) → PostsNothing entry → balance setup (entries ++ entry ∷ []) account ≡ balance setup entries account
balance-kept setup entries entry account nothing = balance_on-kept entries entry (line_at setup account) nothing

-- ---- an entry that posts a transfer

abbrev pub Posts : Entry → TransferRow → Type 0
Posts entry row = posting_of entry.number (row_in entry.change) ≡ record { number = entry.number; row = row } ∷ []

sum-push : (opening : ℤ) (name : AcctName) (postings : List Posting) (posting : Posting) → sum_from opening name (postings ++ posting ∷ []) ≡ sum_from opening name postings +ℤ part name posting.row
unfolding sum_from
sum-push opening name postings posting = fold-append (λ (sum : ℤ) (p : Posting). sum +ℤ part name p.row) opening postings (posting ∷ [])

balance_on-posted : (entries : List Entry) (entry : Entry) (row : TransferRow) (line : AccountLine) → Posts entry row → balance_on (entries ++ entry ∷ []) (Some line) ≡ balance_on entries (Some line) +ℤ part line.name row
balance_on-posted entries entry row line posts =
    ap (sum_from line.opening.0 line.name) (moved-push entries entry ∙ ap (λ (l : List Posting). moved entries ++ l) posts)
    ∙ sum-push line.opening.0 line.name (moved entries) (record { number = entry.number; row = row })

pub balance-posted : (setup : Setup) (entries : List Entry) (entry : Entry) (row : TransferRow) (account : AcctId) (line : AccountLine) → Posts entry row → line_at setup account ≡ Some line → balance setup (entries ++ entry ∷ []) account ≡ balance setup entries account +ℤ part line.name row
balance-posted setup entries entry row account line posts at = rw at (balance_on-posted entries entry row line posts)

-- what is left of a balance that covers what is taken
covered_part : (b amount : ℤ) (into out : Bool) → pos 0 ≤ℤ b → pos 0 ≤ℤ amount → (out ≡ true → amount ≤ℤ b) → pos 0 ≤ℤ (b +ℤ (cond into amount (pos 0) -ℤ cond out amount (pos 0)))
covered_part b amount true true covered positive enough = omega (arith, ints)
covered_part b amount true false covered positive enough = omega (arith, ints)
covered_part b amount false true covered positive enough = let more = enough refl in omega (arith, ints)
covered_part b amount false false covered positive enough = omega (arith, ints)

covered_line : (setup : Setup) (entries : List Entry) (entry : Entry) (row : TransferRow) (source account : AcctId) (line : Option AccountLine) → IsWithinLimits setup → Posts entry row → account_of setup row.from ≡ Some source → pos 0 ≤ℤ row.amount.0 → row.amount.0 ≤ℤ balance setup entries source → pos 0 ≤ℤ balance setup entries account → line_at setup account ≡ line → pos 0 ≤ℤ balance_on (entries ++ entry ∷ []) line
covered_line setup entries entry row source account None within posts from positive enough covered at = omega (arith, ints)
covered_line setup entries entry row source account (Some line) within posts from positive enough covered at =
    let here : pos 0 ≤ℤ balance_on entries (Some line) = rw at at covered in
    let source_of : same_account row.from line.name ≡ true → row.amount.0 ≤ℤ balance_on entries (Some line) =
    (λ same.
    let name : row.from ≡ line.name = same_account-is row.from line.name same in
    let occurrence : Some source ≡ Some account = sym from ∙ ap (account_of setup) name ∙ account_of-line setup account line within at in
    let is : source ≡ account = some_is source account occurrence in
    let more : row.amount.0 ≤ℤ balance setup entries account = rw is at enough in
    rw at at more) in
    rw (balance_on-posted entries entry row line posts)
    (covered_part (balance_on entries (Some line)) row.amount.0 (same_account row.to line.name) (same_account row.from line.name) here positive source_of)

-- A posting that its source covers leaves no balance below zero.
pub covered-posted : (setup : Setup) (entries : List Entry) (entry : Entry) (row : TransferRow) (source : AcctId) → IsWithinLimits setup → Posts entry row → account_of setup row.from ≡ Some source → pos 0 ≤ℤ row.amount.0 → row.amount.0 ≤ℤ balance setup entries source → ((account : AcctId) → pos 0 ≤ℤ balance setup entries account) → (account : AcctId) → pos 0 ≤ℤ balance setup (entries ++ entry ∷ []) account
covered-posted setup entries entry row source within posts from positive enough covered account =
    covered_line setup entries entry row source account (line_at setup account) within posts from positive enough (covered account) refl
