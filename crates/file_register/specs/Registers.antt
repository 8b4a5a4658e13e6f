-- The register of a list of lines.
use Rattle.std.specs.Prelude.{◌≡◌, ◌≤◌, ℤ, pos, ◌+ℤ◌, if◌then◌else◌, List, [], length, Contains, ◌↔◌}
use Rattle.std.specs.List.{fold, AllByRecursion}
use Rattle.std.specs.List.Sorted.{IsStrictlySortedBy}
use Rattle.std.specs.BTreeSet.{insert_key}
use Rattle.ofx_types.specs.AccountForm.{same_account}
use Rattle.ofx_types.specs.declared.account.AcctName.{AcctName}
use Rattle.file_register.specs.Order.{line_cmp, IsSameEntry}
use Rattle.file_register.specs.Lines.{IsSoundLine}
use Rattle.file_register.specs.declared.line.Line.{Line}

-- A line is inserted in order, unless one of its account and FITID is there.
abbrev pub put_line : List Line → Line → List Line
put_line = insert_key line_cmp

-- The register of a list has its lines without repeats, in their order.
unfoldable pub register : List Line → List Line
register lines = fold put_line [] lines

-- Each line is below those after it.
abbrev pub IsRising : List Line → Type 0
IsRising lines = IsStrictlySortedBy line_cmp lines

-- No two lines of the list clash.
abbrev pub HasNoClash : List Line → Type 0
HasNoClash lines = (line other : Line) → Contains lines line → Contains lines other → IsSameEntry line other → line ≡ other

-- Two lists have the same members.
abbrev pub HaveSameMembers : List Line → List Line → Type 0
HaveSameMembers lines others = (line : Line) → Contains lines line ↔ Contains others line

-- What a register is: at most 500,000 lines, in rising order, each within its bounds.
pub record IsRegister (lines : List Line) : Type 0 where
  pub rising : IsRising lines
  pub few : length lines ≤ 500000
  pub sound : AllByRecursion IsSoundLine lines

-- the sum of the amounts of an account's lines, in cents
abbrev pub sum_with : AcctName → ℤ → Line → ℤ
sum_with account total line = if same_account line.account account then total +ℤ line.amount.0 else total

abbrev pub sum_of : AcctName → List Line → ℤ
sum_of account lines = fold (sum_with account) (pos 0) lines
