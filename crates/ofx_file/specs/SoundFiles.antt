-- Files that may be handed to a bank.
use Rattle.std.specs.Prelude.{ℕ, ◌≤◌, List, length}
use Rattle.ofx_types.specs.FileForm.{SpellsFile}
use Rattle.ofx_types.specs.declared.request.RequestFile.{RequestFile}
use Rattle.bank_model.specs.Sound.{IsSound}

-- The values of a file that is spelled by at most 262,144 bytes are within their bounds.
abbrev pub SpelledFilesAreSound : Type 0
SpelledFilesAreSound = (bytes : List ℕ) (file : RequestFile) → SpellsFile bytes file → length bytes ≤ 262144 → IsSound file
