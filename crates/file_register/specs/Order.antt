-- The order of a register's lines.
use Rattle.std.specs.Prelude.{◌≡◌, ◌≢◌}
use Rattle.std.specs.Cmp.{IsTotalOrder}
use Rattle.std.specs.Ordering.{nat_cmp, on, then_cmp}
use Rattle.std.specs.Cmp.Lexicographic.{slice_cmp}
use Rattle.std.specs.declared.cmp.Ordering.{Ordering}
use Rattle.std.proofs.lemmas.Cmp.{nat_cmp_total, nat_list_cmp_total, on_total, then_total}
use Rattle.ofx_types.specs.AccountForm.{kind_number}
use Rattle.ofx_types.specs.declared.account.AcctName.{AcctName}
use Rattle.file_register.specs.declared.line.Line.{Line}

-- Accounts are in the order of their banks, then of their numbers, both byte by byte, and then of their kinds.
unfoldable pub account_cmp : AcctName → AcctName → Ordering
account_cmp =
    then_cmp (on (λ (a : AcctName). a.bank) (slice_cmp nat_cmp))
    (then_cmp (on (λ (a : AcctName). a.number) (slice_cmp nat_cmp)) (on (λ (a : AcctName). kind_number a.kind) nat_cmp))

-- Lines are in the order of their accounts, and then of their FITIDs.
unfoldable pub line_cmp : Line → Line → Ordering
line_cmp = then_cmp (on (λ (line : Line). line.account) account_cmp) (on (λ (line : Line). line.fitid) nat_cmp)

-- Both are total orders.
pub account_total : IsTotalOrder account_cmp
unfolding account_cmp
account_total =
    then_total (on_total (λ (a : AcctName). a.bank) nat_list_cmp_total)
    (then_total (on_total (λ (a : AcctName). a.number) nat_list_cmp_total) (on_total (λ (a : AcctName). kind_number a.kind) nat_cmp_total))

pub line_total : IsTotalOrder line_cmp
unfolding line_cmp
line_total = then_total (on_total (λ (line : Line). line.account) account_total) (on_total (λ (line : Line). line.fitid) nat_cmp_total)

-- One transaction of one account.
pub record IsSameEntry (line other : Line) : Type 0 where
  pub account : line.account ≡ other.account
  pub fitid : line.fitid ≡ other.fitid

-- Two lines clash where the account and the FITID agree and the rest differs.
pub record Clash (line other : Line) : Type 0 where
  pub entry : IsSameEntry line other
  pub differ : line ≢ other
