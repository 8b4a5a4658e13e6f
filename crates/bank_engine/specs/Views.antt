-- What contracts see of an engine, of an event that is ready, and of a journal: an engine with its keeper and its log.
use Rattle.std.specs.Prelude.{ℕ, Bool, List, Option}
use Rattle.ofx_types.specs.declared.number.Moment.{Moment}
use Rattle.bank_model.specs.declared.event.Event.{Event}
use Rattle.bank_model.specs.declared.event.State.{State}
use Rattle.bank_model.specs.declared.log.LogItem.{LogItem}
use Rattle.bank_model.specs.declared.setup.Setup.{Setup}
use Rattle.bank_accounts.specs.AccountView.{Tables}
use Rattle.bank_core.specs.BookView.{PreparedView}
use Rattle.bank_ledger.specs.LedgerView.{Room}

-- An event whose append failed at its moment, until it is settled whether its record is stored.
pub record PendingView : Type 0 where
  pub event : Event
  pub at : Moment
  -- the number of its fault among the endings of the log, modulo 2^64
  pub number : ℕ

-- What an engine is alone: its book with the room that is reserved in it and the table of each account, and what is pending.
pub record EngineView : Type 0 where
  pub setup : Setup
  pub state : State
  pub room : Room
  pub tables : Tables
  pub pending : Option PendingView

-- An event that is ready: its record, and the step that the book will take.
pub record ReadyView : Type 0 where
  pub event : Event
  pub at : Moment
  pub rec : List ℕ
  pub prepared : PreparedView

-- What an engine sees of the keeper of its records.
pub record KeeperView : Type 0 where
  -- the records, where they are known
  pub records : Option (List (List ℕ))
  -- whether the record of the append that failed is stored, where this is known
  pub landed : Option Bool
  -- whether an append failed and isn't settled
  pub unsettled : Bool
  -- the count of faults
  pub faults : ℕ

-- A bank as its journal has it.
pub record JournalView : Type 0 where
  pub setup : Setup
  -- the state that the log ends in
  pub state : State
  -- the table of each account, by the account's number
  pub tables : Tables
  -- what the bank's callers were answered, and what its keeper refused
  pub log : List LogItem
  pub pending : Option PendingView
  pub records : Option (List (List ℕ))
  pub landed : Option Bool
  pub unsettled : Bool
  pub faults : ℕ

-- an engine with its keeper and its log
abbrev pub journal_of : EngineView → KeeperView → List LogItem → JournalView
journal_of engine keeper log = record {
  setup = engine.setup;
  state = engine.state;
  tables = engine.tables;
  log = log;
  pending = engine.pending;
  records = keeper.records;
  landed = keeper.landed;
  unsettled = keeper.unsettled;
  faults = keeper.faults;
}
