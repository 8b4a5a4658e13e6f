-- Exactly where a file is refused, as far as memory is there, and what many imports come to.
use Rattle.std.specs.Prelude.{◌≡◌, ◌≢◌, ◌≤◌, List, [], ◌∷◌, ◌++◌, length, Result, Ok, Err, ◌⊎◌}
use Rattle.std.specs.List.{flat_map}
use Rattle.ofx_types.specs.declared.reply.ReplyFile.{ReplyFile}
use Rattle.file_register.specs.Lines.{lines_of}
use Rattle.file_register.specs.Registers.{register, HasNoClash}
use Rattle.file_register.specs.Importing.{IsFirstClash, IsFull, Accepts, Imports}
use Rattle.file_register.specs.declared.line.Line.{Line}
use Rattle.file_register.specs.declared.import.Imported.{Imported}
use Rattle.file_register.specs.declared.import.ImportFault.{ImportFault}
use Rattle.file_register.specs.declared.import.ImportFault.TheVariants as faults

-- This is what comes of an import, unless memory was refused.
abbrev pub IsRefusedAs : Result Imported ImportFault → ImportFault → Type 0
IsRefusedAs result fault = (result ≡ Err fault) ⊎ (result ≡ Err faults.OutOfMemory)

-- A failed signon is reported,
abbrev pub SignonsAreTold : Type 0
SignonsAreTold = (old : List Line) (reply : ReplyFile) (result : Result Imported ImportFault) (new : List Line)
    → Imports old reply result new → reply.signon ≢ 0 → IsRefusedAs result (faults.Signon reply.signon)

-- otherwise the first clash,
abbrev pub ClashesAreTold : Type 0
ClashesAreTold = (old : List Line) (reply : ReplyFile) (result : Result Imported ImportFault) (new : List Line) (kept other : Line)
    → Imports old reply result new → reply.signon ≡ 0 → IsFirstClash old (lines_of reply) kept other → IsRefusedAs result (faults.Clash kept other)

-- otherwise that the lines would be too many.
abbrev pub FullIsTold : Type 0
FullIsTold = (old : List Line) (reply : ReplyFile) (result : Result Imported ImportFault) (new : List Line)
    → Imports old reply result new → reply.signon ≡ 0 → IsFull old (lines_of reply) → IsRefusedAs result faults.Full

-- The file was taken in.
pub record IsTaken (old lines : List Line) (result : Result Imported ImportFault) (new : List Line) : Type 0 where
  pub counts : Imported
  pub result_is : result ≡ Ok counts
  pub takes : Accepts old lines counts new

-- No other file is refused but for memory.
abbrev pub OthersAreTaken : Type 0
OthersAreTaken = (old : List Line) (reply : ReplyFile) (result : Result Imported ImportFault) (new : List Line)
    → Imports old reply result new → reply.signon ≡ 0 → HasNoClash (old ++ lines_of reply) → length (register (old ++ lines_of reply)) ≤ 500000
    → IsTaken old (lines_of reply) result new ⊎ (result ≡ Err faults.OutOfMemory)

-- ---- many files

abbrev pub lines_of_all : List ReplyFile → List Line
lines_of_all files = flat_map lines_of files

-- Files were imported one after another, none of them refused.
abbrev pub AreImported : List Line → List ReplyFile → List Line → Type 0
AreImported old [] new = new ≡ old
AreImported old (file ∷ files) new = (counts : Imported) × (between : List Line) × Imports old file (Ok counts) between × AreImported between files new

-- The register after files that were imported is that of all their lines: which files had a line, in which order and how often
-- makes no difference.
abbrev pub ImportsAddUp : Type 0
ImportsAddUp = (files : List ReplyFile) (new : List Line) → AreImported [] files new → new ≡ register (lines_of_all files)

-- After some files of a list in which no two lines clash and of which the register isn't too long, no other of them is refused but
-- for its signon or for memory.
abbrev pub NoneIsRefused : Type 0
NoneIsRefused = (before : List ReplyFile) (file : ReplyFile) (rest : List ReplyFile) (old : List Line) (result : Result Imported ImportFault) (new : List Line)
    → HasNoClash (lines_of_all (before ++ file ∷ rest)) → length (register (lines_of_all (before ++ file ∷ rest))) ≤ 500000
    → AreImported [] before old → file.signon ≡ 0 → Imports old file result new → IsTaken old (lines_of file) result new ⊎ (result ≡ Err faults.OutOfMemory)
