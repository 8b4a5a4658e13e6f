-- What a run prints of the files of its frames, and what the register is after them.
use Rattle.std.specs.Prelude.{◌≡◌, ℕ, List, [], ◌∷◌, ◌++◌, Result, ◌⊎◌}
use Rattle.ofx_types.specs.FileForm.{SpellsReply, IsReplyFaultOf}
use Rattle.ofx_types.specs.declared.fault.FileFault.{FileFault}
use Rattle.ofx_types.specs.declared.fault.FileFault.TheVariants.{Header, Syntax, Form}
use Rattle.ofx_types.specs.declared.reply.ReplyFile.{ReplyFile}
use Rattle.file_register.specs.Importing.{Imports}
use Rattle.file_register.specs.declared.line.Line.{Line}
use Rattle.file_register.specs.declared.import.Imported.{Imported}
use Rattle.file_register.specs.declared.import.ImportFault.{ImportFault}
use Rattle.register_run.specs.Lines.{bad_line, IsLineOf}

-- Bytes that spell no reply file have a fault at this offset.
abbrev pub IsNoReplyAt : List ℕ → ℕ → Type 0
IsNoReplyAt bytes at = IsReplyFaultOf bytes (Header at) ⊎ (IsReplyFaultOf bytes (Syntax at) ⊎ IsReplyFaultOf bytes (Form at))

-- The offset is printed, and nothing is changed.
pub record IsBadFile (lines : List Line) (file line : List ℕ) (after : List Line) : Type 0 where
  pub offset : ℕ
  pub fault : IsNoReplyAt file offset
  pub line_is : line ≡ bad_line offset
  pub stays : after ≡ lines

-- A reply file is imported, and it is printed what came of that.
pub record ImportsReply (lines : List Line) (reply : ReplyFile) (line : List ℕ) (after : List Line) : Type 0 where
  pub outcome : Result Imported ImportFault
  pub imports : Imports lines reply outcome after
  pub reported : IsLineOf outcome line

pub record IsImported (lines : List Line) (file line : List ℕ) (after : List Line) : Type 0 where
  pub reply : ReplyFile
  pub spells : SpellsReply file reply
  pub imports : ImportsReply lines reply line after

abbrev pub AnswersFile : List Line → List ℕ → List ℕ → List Line → Type 0
AnswersFile lines file line after = IsBadFile lines file line after ⊎ IsImported lines file line after

-- Files are answered in their order, each from the register that the one before it left.
abbrev pub AnswersFiles : List Line → List (List ℕ) → List ℕ → List Line → Type 0
AnswersFiles lines [] text after = (text ≡ []) × (after ≡ lines)
AnswersFiles lines (file ∷ files) text after =
    (line : List ℕ) × (between : List Line) × (rest : List ℕ) × AnswersFile lines file line between × AnswersFiles between files rest after × (text ≡ line ++ rest)
