-- What reading a request file answers.
use Rattle.std.specs.Prelude.{ℕ, ◌≤◌, List, length, Result, Ok, Err}
use Rattle.ofx_types.specs.FileForm.{SpellsFile, IsFaultOf}
use Rattle.ofx_types.specs.declared.fault.FileFault.{FileFault}
use Rattle.ofx_types.specs.declared.request.RequestFile.{RequestFile}
use Rattle.bank_model.specs.Sound.{IsSound}
use Rattle.ofx_file.specs.Outcome.{IsRefusal, AreReadAll, AreRefusedAll, AreJudged}

-- What is read is the file that the bytes spell. A file of at most 262,144 bytes may be handed to a bank.
abbrev pub ReadsRequest : List ℕ → Result RequestFile FileFault → Type 0
ReadsRequest bytes (Ok file) = SpellsFile bytes file × (length bytes ≤ 262144 → IsSound file)
ReadsRequest bytes (Err fault) = IsRefusal IsFaultOf bytes fault

abbrev pub ReadsAll : List ℕ → Result RequestFile FileFault → Type 0
ReadsAll bytes answer = AreReadAll SpellsFile bytes answer

abbrev pub RefusesAll : List ℕ → Result RequestFile FileFault → Type 0
RefusesAll bytes answer = AreRefusedAll IsFaultOf bytes answer

abbrev pub EachIsJudged : Type 0
EachIsJudged = AreJudged SpellsFile IsFaultOf
