-- Reading a saved text from left to right: the lines of a register, or the offset of the first field that has no form.
use Rattle.std.specs.Prelude.{ℕ, zero, suc, nat_le, ◌==◌, Bool, true, if◌then◌else◌, List, [], ◌∷◌, length, Option, None, Some, Result, Ok, Err}
use Rattle.std.specs.Ordering.{is_lt, nat_cmp, ordering_then}
use Rattle.ofx_types.specs.declared.account.AcctName.{AcctName}
use Rattle.record_fields.specs.FieldReading.{◌>>=◌, u8_at, u32_at, u64_at, amount_at, moment_at}
use Rattle.record_fields.specs.PartReading.{acct_at}
use Rattle.file_register.specs.Order.{account_cmp}
use Rattle.file_register.specs.declared.line.Line.{Line}

-- Whether an account and a FITID are above those of the line before.
unfoldable pub is_above : Option Line → AcctName → ℕ → Bool
is_above None account fitid = true
is_above (Some before) account fitid = is_lt (ordering_then (account_cmp before.account account) (nat_cmp before.fitid fitid))

-- The account and the FITID of a line. Where they aren't above those of the line before, the line's first byte has no form.
unfoldable pub entry_at : Option Line → List ℕ → ℕ → Result ((AcctName × ℕ) × ℕ) ℕ
entry_at before text at = do
  account ← acct_at text at
  fitid ← u64_at text account.1
  if is_above before account.0 fitid.0 then Ok ((account.0, fitid.0), fitid.1) else Err at

unfoldable pub line_at : Option Line → List ℕ → ℕ → Result (Line × ℕ) ℕ
line_at before text at = do
  entry ← entry_at before text at
  posted ← moment_at text entry.1
  amount ← amount_at text posted.1
  Ok (record { account = entry.0.0; fitid = entry.0.1; posted = posted.0; amount = amount.0 }, amount.1)

-- this many lines after one, in rising order
unfoldable pub lines_from : ℕ → Option Line → List ℕ → ℕ → Result (List Line × ℕ) ℕ
lines_from zero before text at = Ok ([], at)
lines_from (suc n) before text at = do
  first ← line_at before text at
  others ← lines_from n (Some first.0) text first.1
  Ok (first.0 ∷ others.0, others.1)

-- A count above 500,000 has no form.
unfoldable pub count_at : List ℕ → ℕ → Result (ℕ × ℕ) ℕ
count_at text at = do
  count ← u32_at text at
  if nat_le count.0 500000 then Ok count else Err at

unfoldable pub coding_at : List ℕ → ℕ → Result (ℕ × ℕ) ℕ
coding_at text at = do
  version ← u8_at text at
  if version.0 == 1 then Ok version else Err at

unfoldable pub register_at : List ℕ → ℕ → Result (List Line × ℕ) ℕ
register_at text at = do
  version ← coding_at text at
  count ← count_at text version.1
  lines_from count.0 None text count.1

-- Where more bytes follow, the first of them has no form.
unfoldable pub register_read : List ℕ → Result (List Line) ℕ
register_read text = do
  found ← register_at text 0
  if found.1 == length text then Ok found.0 else Err found.1
