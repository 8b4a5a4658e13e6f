-- What importing a reply file does to a register.
use Rattle.std.specs.Prelude.{◌≡◌, ◌≢◌, ◌+◌, ◌<◌, ◌≤◌, List, ◌∷◌, ◌++◌, length, Contains, Result, Ok, Err}
use Rattle.ofx_types.specs.declared.reply.ReplyFile.{ReplyFile}
use Rattle.file_register.specs.Order.{Clash}
use Rattle.file_register.specs.Lines.{lines_of}
use Rattle.file_register.specs.Registers.{register, HasNoClash}
use Rattle.file_register.specs.declared.line.Line.{Line}
use Rattle.file_register.specs.declared.import.Imported.{Imported}
use Rattle.file_register.specs.declared.import.ImportFault.{ImportFault}
use Rattle.file_register.specs.declared.import.ImportFault.TheVariants as faults

-- Of the lines of a file this is the first that clashes with one of the register or with an earlier one of the file, and
-- that is the one with which it clashes.
pub record IsFirstClash (old lines : List Line) (kept other : Line) : Type 0 where
  pub before : List Line
  pub rest : List Line
  pub parts : lines ≡ before ++ other ∷ rest
  pub clean : HasNoClash (old ++ before)
  pub is_there : Contains (old ++ before) kept
  pub clash : Clash kept other

-- The register is then that of the old lines followed by the file's. The lines of the file that were not there are counted,
-- and all others, a repeat inside the file among them.
pub record Accepts (old lines : List Line) (counts : Imported) (new : List Line) : Type 0 where
  pub clean : HasNoClash (old ++ lines)
  pub register_is : new ≡ register (old ++ lines)
  pub few : length new ≤ 500000
  pub added : length new ≡ length old + counts.new
  pub counted : counts.new + counts.known ≡ length lines

-- The lines that would be there are too many.
pub record IsFull (old lines : List Line) : Type 0 where
  pub clean : HasNoClash (old ++ lines)
  pub many : 500000 < length (register (old ++ lines))

-- A file is refused for its signon, then for a clash, then for the number of lines, and the register is as before.
abbrev pub Refuses : List Line → ReplyFile → ImportFault → Type 0
Refuses old reply (faults.Signon code) = (reply.signon ≢ 0) × (code ≡ reply.signon)
Refuses old reply (faults.Clash kept other) = (reply.signon ≡ 0) × IsFirstClash old (lines_of reply) kept other
Refuses old reply faults.Full = (reply.signon ≡ 0) × IsFull old (lines_of reply)
Refuses old reply faults.OutOfMemory = Unit {0}

abbrev pub Imports : List Line → ReplyFile → Result Imported ImportFault → List Line → Type 0
Imports old reply (Ok counts) new = (reply.signon ≡ 0) × Accepts old (lines_of reply) counts new
Imports old reply (Err fault) new = Refuses old reply fault × (new ≡ old)
