-- What contracts see of a book, and of an event that is prepared.
use Rattle.std.specs.Prelude.{ℕ, ◌+◌, ◌<◌, ◌≤◌, List, length}
use Rattle.bank_model.specs.declared.setup.Setup.{Setup}
use Rattle.bank_model.specs.declared.event.State.{State}
use Rattle.bank_model.specs.declared.event.Event.{Event}
use Rattle.bank_accounts.specs.AccountView.{Tables}
use Rattle.bank_ledger.specs.LedgerView.{Room}

-- A book is of a setup, and is in a state.
pub record BookView : Type 0 where
  pub setup : Setup
  pub state : State

-- A book with the table of each account, by its number, and with the room that is reserved in it.
pub record ReservedBook : Type 0 where
  pub setup : Setup
  pub state : State
  pub tables : Tables
  pub room : Room

-- What an event does in a state of a bank of a setup: the state that it leaves, and what it answers.
pub record PreparedView : Type 0 where
  pub setup : Setup
  pub before : State
  pub event : Event
  pub after : State
  pub reply : List ℕ

-- There is room for what lies between two states, and for one more reply.
pub record HasRoom (room : Room) (before after : State) : Type 0 where
  pub entries : length after.entries ≤ length before.entries + room.entries
  pub transfers : length after.entries ≤ length before.entries + room.transfers
  pub models : length after.entries ≤ length before.entries + room.models
  pub pairs : length after.used ≤ length before.used + room.pairs
  pub files : 0 < room.files

-- No room that was made is lost.
pub record KeepsRoom (before after : Room) : Type 0 where
  pub entries : before.entries ≤ after.entries
  pub transfers : before.transfers ≤ after.transfers
  pub models : before.models ≤ after.models
  pub pairs : before.pairs ≤ after.pairs
  pub files : before.files ≤ after.files
