-- Steps of a book that are prepared, until their event is known to be kept.
use Rattle.std.specs.Prelude.{◌≡◌, List, ◌++◌}
use Rattle.ofx_types.specs.declared.number.Moment.{Moment}
use Rattle.bank_model.specs.declared.entry.Entry.{Entry}
use Rattle.bank_model.specs.declared.event.Event.{Event}
use Rattle.bank_model.specs.declared.event.State.{State}
use Rattle.bank_model.specs.declared.setup.Setup.{Setup}
use Rattle.bank_model.specs.LegalLog.{MayHappen}
use Rattle.bank_model.specs.Rules.{state_after, answer_to}
use Rattle.bank_core.specs.BookView.{PreparedView, HasRoom}
use Rattle.bank_ledger.specs.LedgerView.{Room}

-- An event only adds entries to those that are there.
pub record AddsEntries (setup : Setup) (S : State) (at : Moment) (event : Event) : Type 0 where
  pub added : List Entry
  pub entries : (state_after setup S at event).entries ≡ S.entries ++ added

-- The step may be taken by a book of that setup in that state: it is that of the event, which may happen, and there is room for it.
pub record IsReady (setup : Setup) (S : State) (room : Room) (at : Moment) (event : Event) (prepared : PreparedView) : Type 0 where
  pub may_happen : MayHappen setup S at event
  pub own : prepared.setup ≡ setup
  pub before : prepared.before ≡ S
  pub of : prepared.event ≡ event
  pub after : prepared.after ≡ state_after setup S at event
  pub reply : prepared.reply ≡ answer_to setup S at event
  pub fits : HasRoom room S prepared.after
  pub adds : AddsEntries setup S at event

-- Who publishes the bank's log expects the entries that an event adds.
pub record Expects (expects : List Entry → Type 0) (setup : Setup) (S : State) (at : Moment) (event : Event) : Type 0 where
  pub entries : (added : List Entry) → (state_after setup S at event).entries ≡ S.entries ++ added → expects added
