-- What a board of tokens tells of a bank: it began with the bank's newest numbers, and its log is the bank's.
use Rattle.std.specs.Prelude.{◌≡◌, ℕ, ◌<◌, List, ◌++◌, length, Some, slice_index_or}
use Rattle.ofx_types.specs.declared.number.Moment.{Moment}
use Rattle.ofx_types.specs.declared.number.ObjectId.{ObjectId}
use Rattle.ofx_types.specs.declared.number.UserId.{UserId}
use Rattle.ofx_types.specs.declared.sync.ObjectName.{ObjectName}
use Rattle.bank_model.specs.declared.entry.Entry.{Entry}
use Rattle.bank_model.specs.declared.event.Event.{Event}
use Rattle.bank_model.specs.declared.event.State.{State}
use Rattle.bank_model.specs.declared.log.LogItem.{LogItem}
use Rattle.bank_model.specs.declared.setup.Setup.{Setup}
use Rattle.bank_model.specs.LegalLog.{MayHappen}
use Rattle.bank_model.specs.Log.{entries_in}
use Rattle.bank_model.specs.Objects.{object_named, newest}
use Rattle.bank_model.specs.Rules.{state_after}
use Rattle.bank_model.specs.SetupForm.{IsWithinLimits}
use Rattle.bank_callers.specs.Belonging.{object_count, AllBelong}
use Rattle.bank_invariants.specs.SoundStates.{IsSoundState}
use Rattle.token_board.specs.declared.view.Load.{Load}
use Rattle.token_board.specs.Following.{MayFollow}
use Rattle.token_board.specs.Tokens.{IsFreshIn, IsTokenIn}
use Rattle.bank_callers.specs.Callers.{IsFresh, HoldsIn}

-- the newest number of each object of a bank in a state
pub record AreNewest (setup : Setup) (S : State) (numbers : List ℕ) : Type 0 where
  pub size : length numbers ≡ object_count setup
  pub newest : (object : ObjectId) → object.0 < object_count setup → slice_index_or numbers object.0 0 ≡ newest object S.entries

-- ---- laws

-- An object that a name stands for is one of the setup's.
abbrev pub ObjectsAreCounted : Type 0
ObjectsAreCounted = (setup : Setup) (user : UserId) (name : ObjectName) (object : ObjectId) → user.0 < length setup.users
    → object_named setup user name ≡ Some object → object.0 < object_count setup

-- The entries that an event adds to a sound state may be published at a board that began with the newest numbers of the state that
-- the bank opened in, and whose log has brought the bank to this state.
abbrev pub StepsFollow : Type 0
StepsFollow = (setup : Setup) (opening S : State) (start : List ℕ) (log : List LogItem) (at : Moment) (event : Event) (added : List Entry)
    → IsWithinLimits setup → AreNewest setup opening start → IsSoundState setup S → AllBelong setup S.entries
    → S.entries ≡ entries_in opening log → MayHappen setup S at event → (state_after setup S at event).entries ≡ S.entries ++ added
    → MayFollow start log added

-- A token that is no older than the board's newest is no older than the bank's.
abbrev pub TokensAreFresh : Type 0
TokensAreFresh = (setup : Setup) (opening : State) (start : List ℕ) (seen : List LogItem) (load : Load) → AreNewest setup opening start
    → load.object.0 < object_count setup → IsFreshIn start seen load → IsFresh (entries_in opening seen) load

-- A token that stands in the board's log is the number of one of the bank's entries.
abbrev pub TokensHold : Type 0
TokensHold = (setup : Setup) (opening : State) (start : List ℕ) (log : List LogItem) (load : Load) → AreNewest setup opening start
    → IsTokenIn start log load → HoldsIn (entries_in opening log) load
