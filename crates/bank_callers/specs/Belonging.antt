-- Entries belong to the objects of their setup.
use Rattle.std.specs.Prelude.{ℕ, ◌+◌, ◌*◌, ◌<◌, List, length}
use Rattle.std.specs.List.{AllByRecursion}
use Rattle.ofx_types.specs.declared.number.Moment.{Moment}
use Rattle.bank_model.specs.declared.entry.Entry.{Entry}
use Rattle.bank_model.specs.declared.event.Event.{Event}
use Rattle.bank_model.specs.declared.event.State.{State}
use Rattle.bank_model.specs.declared.log.LogItem.{LogItem}
use Rattle.bank_model.specs.declared.setup.Setup.{Setup}
use Rattle.bank_model.specs.LegalLog.{IsWholeLog, ends}
use Rattle.bank_model.specs.Rules.{opening_state, state_after, IsLegal}
use Rattle.bank_model.specs.SetupForm.{IsWithinLimits}
use Rattle.bank_invariants.specs.Runs.{Happening, after_all, AreLegal}

-- Each account has three objects, and each user one.
abbrev pub object_count : Setup → ℕ
object_count setup = 3 * length setup.accounts + length setup.users

abbrev pub BelongsIn : Setup → Entry → Type 0
BelongsIn setup entry = entry.object.0 < object_count setup

abbrev pub AllBelong : Setup → List Entry → Type 0
AllBelong setup entries = AllByRecursion (BelongsIn setup) entries

-- ---- laws

-- So it stays whatever happens,
abbrev pub StepsBelong : Type 0
StepsBelong = (setup : Setup) (S : State) (at : Moment) (event : Event) → IsWithinLimits setup → AllBelong setup S.entries
    → IsLegal setup S at event → AllBelong setup (state_after setup S at event).entries

-- after any events from the opening of a bank,
abbrev pub RunsBelong : Type 0
RunsBelong = (setup : Setup) (run : List Happening) → IsWithinLimits setup → AreLegal setup opening_state run
    → AllBelong setup (after_all setup opening_state run).entries

-- and after each whole log.
abbrev pub LogsBelong : Type 0
LogsBelong = (setup : Setup) (S : State) (log : List LogItem) → IsWithinLimits setup → AllBelong setup S.entries
    → IsWholeLog setup S log → AllBelong setup (ends setup S log).entries
