-- The accounts of a register, with the number and the sum of their lines.
use Rattle.std.specs.Prelude.{ℕ, ◌+◌, ◌+ℤ◌, List, [], ◌∷◌, if◌then◌else◌}
use Rattle.std.specs.List.{flat_map}
use Rattle.ofx_types.specs.AccountForm.{same_account}
use Rattle.file_register.specs.declared.line.Line.{Line}
use Rattle.register_run.specs.Lines.{account_line}
use Rattle.register_run.specs.declared.tallies.Tally.{Tally}

-- the first line of an account
abbrev pub tally_of : Line → Tally
tally_of line = record { account = line.account; count = 1; sum = line.amount }

-- one more line of the account
abbrev pub with_line : Tally → Line → Tally
with_line tally line = record { account = tally.account; count = tally.count + 1; sum = record { 0 = tally.sum.0 +ℤ line.amount.0 } }

-- The lines of an account are next to each other. A line of the account before it counts there, and another begins anew.
abbrev pub tallies_from : Tally → List Line → List Tally
tallies_from tally [] = tally ∷ []
tallies_from tally (line ∷ lines) =
    if same_account line.account tally.account then tallies_from (with_line tally line) lines else tally ∷ tallies_from (tally_of line) lines

abbrev pub tallies : List Line → List Tally
tallies [] = []
tallies (line ∷ lines) = tallies_from (tally_of line) lines

-- A line for each account, in order.
unfoldable pub accounts_text : List Line → List ℕ
accounts_text lines = flat_map account_line (tallies lines)
