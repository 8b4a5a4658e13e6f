-- What is pending in an engine.
use Rattle.bank_core.specs.BookView.{ReservedBook}
use Rattle.bank_engine.specs.declared.pending.Pending.{Pending}
use Rattle.bank_engine.specs.Steps.{IsReady}
use Rattle.bank_engine.specs.Views.{PendingView}

abbrev pub pending_of : Pending → PendingView
pending_of pending = record { event = pending.event; at = pending.at; number = pending.number }

-- Its step may still be taken by the book as it is.
abbrev pub IsReadyStill : ReservedBook → Pending → Type 0
IsReadyStill book pending = IsReady book.setup book.state book.room pending.at pending.event pending.prepared
