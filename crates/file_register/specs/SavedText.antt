-- Which bytes are the saved text of a register, and the offset of the first fault of those that are none.
use Rattle.std.specs.Prelude.{◌≡◌, ◌≢◌, ℕ, List, [], Result, Ok, Err, ◌⊎◌}
use Rattle.file_register.specs.Registers.{IsRegister}
use Rattle.file_register.specs.Coding.{register_text}
use Rattle.file_register.specs.Reading.{register_read}
use Rattle.file_register.specs.declared.line.Line.{Line}
use Rattle.file_register.specs.declared.saving.RegisterFault.{RegisterFault}
use Rattle.file_register.specs.declared.saving.RegisterFault.TheVariants as faults

-- A text is the saved text of a register.
pub record IsSavedText (text : List ℕ) (lines : List Line) : Type 0 where
  pub is_register : IsRegister lines
  pub spelled : text ≡ register_text lines

-- An empty text is an empty register.
abbrev pub IsTextOf : List ℕ → List Line → Type 0
IsTextOf text lines = ((text ≡ []) × (lines ≡ [])) ⊎ IsSavedText text lines

-- The first field without a form begins at this offset, or all fields have one and more bytes follow from there on.
abbrev pub IsFirstFault : List ℕ → ℕ → Type 0
IsFirstFault text at = (text ≢ []) × (register_read text ≡ Err at)

-- What a text is read as, unless memory was refused.
abbrev pub GivesLines : Result (List Line) RegisterFault → Result (List Line) ℕ → Type 0
GivesLines (Ok lines) read = read ≡ Ok lines
GivesLines (Err (faults.Bad at)) read = read ≡ Err at
GivesLines (Err faults.OutOfMemory) read = Unit {0}
