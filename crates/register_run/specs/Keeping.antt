-- How a run opens the register that is kept, and how it saves it and tells of its accounts.
use Rattle.std.specs.Prelude.{◌≡◌, ℕ, List, Option, Result, Ok, Err, ◌⊎◌}
use Rattle.std.specs.Option.{IfSome}
use Rattle.std.specs.Io.KnownBytes.{Keeps, Appends}
use Rattle.ofx_ports.specs.Known.{Stays}
use Rattle.ofx_ports.specs.Saved.{Becomes}
use Rattle.ofx_ports.specs.Writes.{AppendsPart}
use Rattle.file_register.specs.SavedText.{IsSavedText, IsTextOf, IsFirstFault}
use Rattle.file_register.specs.declared.line.Line.{Line}
use Rattle.register_run.specs.Accounts.{accounts_text}
use Rattle.register_run.specs.declared.stop.Stop.{Stop}
use Rattle.register_run.specs.declared.stop.Stop.TheVariants as stops

-- The lines are those of a text, or there is why it has none.
abbrev pub FindsIn : List ℕ → Result (List Line) Stop → Type 0
FindsIn text (Ok lines) = IsTextOf text lines
FindsIn text (Err (stops.BadStore offset)) = IsFirstFault text offset
FindsIn text (Err stops.NoMemory) = Unit {0}
FindsIn text (Err stops.StoreFailed) = ⊥
FindsIn text (Err (stops.Frame offset)) = ⊥
FindsIn text (Err stops.ReadFailed) = ⊥
FindsIn text (Err stops.WriteFailed) = ⊥

-- The text is the one that is kept, where that is known.
abbrev pub IsKept : Option (List ℕ) → List ℕ → Type 0
IsKept saved text = IfSome saved (λ reported. text ≡ reported)

abbrev pub Finds : Option (List ℕ) → Result (List Line) Stop → Type 0
Finds saved (Err stops.StoreFailed) = Unit {0}
Finds saved (Ok lines) = (text : List ℕ) × IsKept saved text × IsTextOf text lines
Finds saved (Err (stops.BadStore offset)) = (text : List ℕ) × IsKept saved text × IsFirstFault text offset
Finds saved (Err stops.NoMemory) = Unit {0}
Finds saved (Err (stops.Frame offset)) = ⊥
Finds saved (Err stops.ReadFailed) = ⊥
Finds saved (Err stops.WriteFailed) = ⊥

-- Bytes are printed whole, or a prefix of them is where a write fails.
abbrev pub Prints : List ℕ → Option (List ℕ) → Option (List ℕ) → Result (Unit {0}) Stop → Type 0
Prints bytes before after (Ok done) = Appends before after bytes
Prints bytes before after (Err stops.WriteFailed) = AppendsPart before after bytes
Prints bytes before after (Err stops.NoMemory) = ⊥
Prints bytes before after (Err stops.StoreFailed) = ⊥
Prints bytes before after (Err (stops.BadStore offset)) = ⊥
Prints bytes before after (Err (stops.Frame offset)) = ⊥
Prints bytes before after (Err stops.ReadFailed) = ⊥

-- The text of the register is kept; or that text or the old one where the save failed; or the old one where memory was refused.
abbrev pub Saves : List Line → Option (List ℕ) → Option (List ℕ) → Result (Unit {0}) Stop → Type 0
Saves lines before after (Ok done) = (text : List ℕ) × IsSavedText text lines × Becomes before after text
Saves lines before after (Err stops.StoreFailed) = (text : List ℕ) × IsSavedText text lines × (Stays before after ⊎ Becomes before after text)
Saves lines before after (Err stops.NoMemory) = Stays before after
Saves lines before after (Err stops.WriteFailed) = ⊥
Saves lines before after (Err (stops.BadStore offset)) = ⊥
Saves lines before after (Err (stops.Frame offset)) = ⊥
Saves lines before after (Err stops.ReadFailed) = ⊥

-- A line of each account is printed.
abbrev pub PrintsAccounts : List Line → Option (List ℕ) → Option (List ℕ) → Result (Unit {0}) Stop → Type 0
PrintsAccounts lines before after (Ok done) = Appends before after (accounts_text lines)
PrintsAccounts lines before after (Err stops.WriteFailed) = AppendsPart before after (accounts_text lines)
PrintsAccounts lines before after (Err stops.NoMemory) = Keeps before after
PrintsAccounts lines before after (Err stops.StoreFailed) = ⊥
PrintsAccounts lines before after (Err (stops.BadStore offset)) = ⊥
PrintsAccounts lines before after (Err (stops.Frame offset)) = ⊥
PrintsAccounts lines before after (Err stops.ReadFailed) = ⊥

-- The text of the register is kept.
abbrev pub Holds : List Line → Option (List ℕ) → Option (List ℕ) → Type 0
Holds lines before after = (text : List ℕ) × IsSavedText text lines × Becomes before after text

-- The register is saved, and then its accounts are printed.
abbrev pub ClosesSo : List Line → Option (List ℕ) → Option (List ℕ) → Option (List ℕ) → Option (List ℕ) → Result (Unit {0}) Stop → Type 0
ClosesSo lines saved held saved' held' (Ok done) = Holds lines saved saved' × Appends held held' (accounts_text lines)
ClosesSo lines saved held saved' held' (Err stops.WriteFailed) = Holds lines saved saved' × AppendsPart held held' (accounts_text lines)
ClosesSo lines saved held saved' held' (Err stops.StoreFailed) =
    ((text : List ℕ) × IsSavedText text lines × (Stays saved saved' ⊎ Becomes saved saved' text)) × Keeps held held'
ClosesSo lines saved held saved' held' (Err stops.NoMemory) = (Stays saved saved' ⊎ Holds lines saved saved') × Keeps held held'
ClosesSo lines saved held saved' held' (Err (stops.BadStore offset)) = ⊥
ClosesSo lines saved held saved' held' (Err (stops.Frame offset)) = ⊥
ClosesSo lines saved held saved' held' (Err stops.ReadFailed) = ⊥
