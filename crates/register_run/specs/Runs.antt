-- A whole run: the register that is kept takes in the files of the frames, is saved, and its accounts are printed.
use Rattle.std.specs.Prelude.{◌≡◌, ℕ, List, [], ◌∷◌, Option, Result, Ok, Err, ◌⊎◌, codes}
use Rattle.std.specs.Io.KnownBytes.{Keeps, Appends}
use Rattle.ofx_ports.specs.Faults.{Rose}
use Rattle.ofx_ports.specs.Known.{Stays}
use Rattle.ofx_ports.specs.Saved.{Becomes}
use Rattle.ofx_ports.specs.Writes.{AppendsPart}
use Rattle.ofx_types.specs.declared.told.Note.TheVariants.{Plain}
use Rattle.ofx_types.specs.declared.told.Told.{Told}
use Rattle.file_register.specs.SavedText.{IsSavedText, IsTextOf, IsFirstFault}
use Rattle.file_register.specs.declared.line.Line.{Line}
use Rattle.register_run.specs.Keeping.{IsKept, Holds}
use Rattle.register_run.specs.Turns.{Finishes, StopsAtFrame, StopsBetween, StopsInLine}
use Rattle.register_run.specs.Accounts.{accounts_text}
use Rattle.register_run.specs.Views.{PortsView}
use Rattle.register_run.specs.Stopping.{reported, reported_of}
use Rattle.register_run.specs.declared.stop.Stop.{Stop}
use Rattle.register_run.specs.declared.stop.Stop.TheVariants as stops

-- The arguments `import` and where the register is kept.
pub record AreArguments (arguments : List (List ℕ)) : Type 0 where
  pub store : List ℕ
  pub spelled : arguments ≡ codes "import" ∷ store ∷ []

-- ---- up to the save

-- The lines are those of the register of the text that is there.
pub record Opens (before : PortsView) (lines : List Line) : Type 0 where
  pub text : List ℕ
  pub text_is : IsKept before.saved text
  pub is_text : IsTextOf text lines

-- The text that is there has no form, and its first fault is at this offset. Nothing was read, printed or saved.
pub record IsFaulty (before after : PortsView) (offset : ℕ) : Type 0 where
  pub text : List ℕ
  pub text_is : IsKept before.saved text
  pub fault : IsFirstFault text offset
  pub read : Keeps before.left after.left
  pub stays : Stays before.saved after.saved
  pub printed : Keeps before.held after.held

-- No register was opened. Nothing was read, printed or saved.
pub record IsUnopened (before after : PortsView) : Type 0 where
  pub read : Keeps before.left after.left
  pub stays : Stays before.saved after.saved
  pub printed : Keeps before.held after.held

-- The frames of the input were answered up to a stop. The text that is there is as before.
pub record StopsSo (Stops : List Line → Option (List ℕ) → Option (List ℕ) → Option (List ℕ) → Type 0) (before after : PortsView) : Type 0 where
  pub lines : List Line
  pub opens : Opens before lines
  pub stops : Stops lines before.left before.held after.held
  pub stays : Stays before.saved after.saved

-- ---- from the save on

-- The input was read to its end and all of its frames are answered; these bytes are printed then.
pub record Answered (before after : PortsView) (held : Option (List ℕ)) (lines : List Line) : Type 0 where
  pub first : List Line
  pub opens : Opens before first
  pub finishes : Finishes first before.left before.held lines after.left held

-- The register is saved, and a line of each account is printed.
pub record Completes (before after : PortsView) : Type 0 where
  pub held : Option (List ℕ)
  pub lines : List Line
  pub answered : Answered before after held lines
  pub saved : Holds lines before.saved after.saved
  pub printed : Appends held after.held (accounts_text lines)

-- The register is saved, and a prefix of the lines of its accounts is printed.
pub record CompletesInPart (before after : PortsView) : Type 0 where
  pub held : Option (List ℕ)
  pub lines : List Line
  pub answered : Answered before after held lines
  pub saved : Holds lines before.saved after.saved
  pub part : AppendsPart held after.held (accounts_text lines)

-- The save failed: the text that was kept is kept still, or that of the register is. No account is printed.
pub record SavesNot (before after : PortsView) : Type 0 where
  pub held : Option (List ℕ)
  pub lines : List Line
  pub answered : Answered before after held lines
  pub text : List ℕ
  pub is_text : IsSavedText text lines
  pub saved : Stays before.saved after.saved ⊎ Becomes before.saved after.saved text
  pub printed : Keeps held after.held

-- Memory was refused for the text, and the one that was kept is kept still; or for the lines of the accounts, after the save.
pub record EndsShort (before after : PortsView) : Type 0 where
  pub held : Option (List ℕ)
  pub lines : List Line
  pub answered : Answered before after held lines
  pub saved : Stays before.saved after.saved ⊎ Holds lines before.saved after.saved
  pub printed : Keeps held after.held

-- ---- the whole

-- How a run ends, and what it did until then. A read, a write or a call of the store failed only where that count of faults rose.
abbrev pub EndsSo : PortsView → PortsView → Result (Unit {0}) Stop → Type 0
EndsSo before after (Ok done) = Completes before after
EndsSo before after (Err (stops.BadStore offset)) = IsFaulty before after offset
EndsSo before after (Err (stops.Frame offset)) = StopsSo (λ lines left held held'. StopsAtFrame lines left held held' offset) before after
EndsSo before after (Err stops.ReadFailed) = StopsSo StopsBetween before after × Rose before.read_faults after.read_faults
EndsSo before after (Err stops.WriteFailed) = (StopsSo StopsInLine before after ⊎ CompletesInPart before after) × Rose before.write_faults after.write_faults
EndsSo before after (Err stops.StoreFailed) = (IsUnopened before after ⊎ SavesNot before after) × Rose before.store_faults after.store_faults
EndsSo before after (Err stops.NoMemory) = IsUnopened before after ⊎ (StopsSo StopsBetween before after ⊎ EndsShort before after)

-- Arguments without the form run nothing.
pub record IsUnordered (arguments : List (List ℕ)) (before after : PortsView) (what : Told) : Type 0 where
  pub usage : AreArguments arguments → ⊥
  pub reported_is : what ≡ reported 2 Plain
  pub unchanged : after ≡ before

pub record IsRun (arguments : List (List ℕ)) (before after : PortsView) (what : Told) : Type 0 where
  pub are_arguments : AreArguments arguments
  pub end : Result (Unit {0}) Stop
  pub ends : EndsSo before after end
  pub reported_is : what ≡ reported_of end

abbrev pub IsRegisterRun : List (List ℕ) → PortsView → PortsView → Told → Type 0
IsRegisterRun arguments before after what = IsUnordered arguments before after what ⊎ IsRun arguments before after what
