-- How the register that is kept is opened, saved and printed.
use Rattle.std.proofs.Common.{◌≡◌, ℕ, inl, inr, List, Option, Result, Ok, Err, subst}
use Rattle.std.specs.Io.KnownBytes.{Appends}
use Rattle.std.proofs.KnownBytes.{Keeps-refl}
use Rattle.ofx_ports.specs.Writes.{AppendsPart}
use Rattle.file_register.specs.declared.line.Line.{Line}
use Rattle.register_run.specs.Accounts.{accounts_text}
use Rattle.register_run.specs.Keeping.{FindsIn, IsKept, Finds, Prints, Saves, PrintsAccounts, ClosesSo}
use Rattle.register_run.specs.declared.stop.Stop.{Stop}
use Rattle.register_run.specs.declared.stop.Stop.TheVariants as stops

-- ---- opening

-- the register of the text that is kept
pub finds_kept : (saved : Option (List ℕ)) (text : List ℕ) (result : Result (List Line) Stop) → IsKept saved text → FindsIn text result → Finds saved result
finds_kept saved text (Ok lines) kept finds = (text, kept, finds)
finds_kept saved text (Err (stops.BadStore offset)) kept finds = (text, kept, finds)
finds_kept saved text (Err stops.NoMemory) kept finds = finds
finds_kept saved text (Err stops.StoreFailed) kept finds = absurd finds
finds_kept saved text (Err (stops.Frame offset)) kept finds = finds
finds_kept saved text (Err stops.ReadFailed) kept finds = finds
finds_kept saved text (Err stops.WriteFailed) kept finds = finds

-- reading a text calls no store
pub never_fetches : (text : List ℕ) (result : Result (List Line) Stop) → FindsIn text result → result ≡ Err stops.StoreFailed → ⊥
never_fetches text result finds failed = let P : Result (List Line) Stop → Type 0 = λ r. FindsIn text r in subst P failed finds

-- ---- closing

-- the lines of the accounts are printed
pub accounts_printed : (lines : List Line) (bytes : List ℕ) (before after : Option (List ℕ)) (result : Result (Unit {0}) Stop) → bytes ≡ accounts_text lines → Prints bytes before after result
    → PrintsAccounts lines before after result
accounts_printed lines bytes before after (Ok done) is prints = subst (λ (l : List ℕ). Appends before after l) is prints
accounts_printed lines bytes before after (Err stops.WriteFailed) is prints = subst (λ (l : List ℕ). AppendsPart before after l) is prints
accounts_printed lines bytes before after (Err stops.NoMemory) is prints = absurd prints
accounts_printed lines bytes before after (Err stops.StoreFailed) is prints = prints
accounts_printed lines bytes before after (Err (stops.BadStore offset)) is prints = prints
accounts_printed lines bytes before after (Err (stops.Frame offset)) is prints = prints
accounts_printed lines bytes before after (Err stops.ReadFailed) is prints = prints

-- a register that isn't saved is closed without a print
pub unsaved : (lines : List Line) (saved saved' held : Option (List ℕ)) (stop : Stop) → Saves lines saved saved' (Err stop) → ClosesSo lines saved held saved' held (Err stop)
unsaved lines saved saved' held stops.StoreFailed saves = (saves, Keeps-refl held)
unsaved lines saved saved' held stops.NoMemory saves = (inl saves, Keeps-refl held)
unsaved lines saved saved' held stops.WriteFailed saves = absurd saves
unsaved lines saved saved' held (stops.BadStore offset) saves = saves
unsaved lines saved saved' held (stops.Frame offset) saves = saves
unsaved lines saved saved' held stops.ReadFailed saves = saves

-- after the save the accounts are printed
pub saved_and_printed : (lines : List Line) (saved saved' held held' : Option (List ℕ)) (done : Unit {0}) (result : Result (Unit {0}) Stop) → Saves lines saved saved' (Ok done)
    → PrintsAccounts lines held held' result → ClosesSo lines saved held saved' held' result
saved_and_printed lines saved saved' held held' done (Ok printed) saves prints = (saves, prints)
saved_and_printed lines saved saved' held held' done (Err stops.WriteFailed) saves prints = (saves, prints)
saved_and_printed lines saved saved' held held' done (Err stops.NoMemory) saves prints = (inr saves, prints)
saved_and_printed lines saved saved' held held' done (Err stops.StoreFailed) saves prints = absurd prints
saved_and_printed lines saved saved' held held' done (Err (stops.BadStore offset)) saves prints = prints
saved_and_printed lines saved saved' held held' done (Err (stops.Frame offset)) saves prints = prints
saved_and_printed lines saved saved' held held' done (Err stops.ReadFailed) saves prints = prints

-- a save writes nothing, and a print calls no store
pub never_writes : (lines : List Line) (saved saved' : Option (List ℕ)) (result : Result (Unit {0}) Stop) → Saves lines saved saved' result → result ≡ Err stops.WriteFailed → ⊥
never_writes lines saved saved' result saves failed = let P : Result (Unit {0}) Stop → Type 0 = λ r. Saves lines saved saved' r in subst P failed saves

pub never_saves : (lines : List Line) (held held' : Option (List ℕ)) (result : Result (Unit {0}) Stop) → PrintsAccounts lines held held' result → result ≡ Err stops.StoreFailed → ⊥
never_saves lines held held' result prints failed = let P : Result (Unit {0}) Stop → Type 0 = λ r. PrintsAccounts lines held held' r in subst P failed prints
