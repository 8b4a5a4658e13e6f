-- The lines that are printed.
use Rattle.std.specs.Prelude.{◌≡◌, ℕ, List, [], ◌∷◌, ◌++◌, codes, Result, Ok, Err}
use Rattle.std.specs.Fmt.{decimal}
use Rattle.bank_frames.specs.Lines as frames
use Rattle.ofx_types.specs.AccountForm.{kind_word}
use Rattle.ofx_types.specs.AmountForm.{amount_text}
use Rattle.ofx_types.specs.declared.account.AcctName.{AcctName}
use Rattle.file_register.specs.declared.line.Line.{Line}
use Rattle.file_register.specs.declared.import.Imported.{Imported}
use Rattle.file_register.specs.declared.import.ImportFault.{ImportFault}
use Rattle.file_register.specs.declared.import.ImportFault.TheVariants as faults
use Rattle.register_run.specs.declared.tallies.Tally.{Tally}

-- `BAD`, a space and the offset of a fault
abbrev pub bad_line : ℕ → List ℕ
bad_line = frames.bad_line

-- `IMPORT`, the number of the lines that were not there, and that of those that were
abbrev pub import_line : Imported → List ℕ
import_line counts = codes "IMPORT " ++ decimal counts.new ++ 32 ∷ [] ++ decimal counts.known ++ 10 ∷ []

-- `SIGNON` and the code with which the signon failed
abbrev pub signon_line : ℕ → List ℕ
signon_line code = codes "SIGNON " ++ decimal code ++ 10 ∷ []

-- `CLASH`, the number and the kind of the account, and the FITID
abbrev pub clash_line : Line → List ℕ
clash_line line =
    codes "CLASH " ++ line.account.number ++ 32 ∷ [] ++ kind_word line.account.kind ++ 32 ∷ [] ++ decimal line.fitid ++ 10 ∷ []

abbrev pub full_line : List ℕ
full_line = codes "FULL" ++ 10 ∷ []

-- What is printed of a reply file. Nothing is where memory was refused.
abbrev pub IsLineOf : Result Imported ImportFault → List ℕ → Type 0
IsLineOf (Ok counts) line = line ≡ import_line counts
IsLineOf (Err (faults.Signon code)) line = line ≡ signon_line code
IsLineOf (Err (faults.Clash kept other)) line = line ≡ clash_line other
IsLineOf (Err faults.Full) line = line ≡ full_line
IsLineOf (Err faults.OutOfMemory) line = ⊥

-- `account` and its number and kind
abbrev pub account_words : AcctName → List ℕ
account_words account = codes "account " ++ account.number ++ 32 ∷ [] ++ kind_word account.kind

-- the number of an account's lines, and their sum
abbrev pub number_words : Tally → List ℕ
number_words tally = codes " lines " ++ decimal tally.count ++ codes " sum " ++ amount_text tally.sum.0 ++ 10 ∷ []

abbrev pub account_line : Tally → List ℕ
account_line tally = account_words tally.account ++ number_words tally
