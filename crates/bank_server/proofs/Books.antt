-- A book may go from one thread to another, with the windows of entries that it holds.
use denote.RattleType.{RattleType}
use denote.Struct.Field.{row_field}
use denote.Param.Send.{IsSend, sendable, view_send}
use denote.Param.SendFields.{declared_send, as_row_send, variants_send}
use Rattle.std.proofs.Crossing.{crosses, frees}
use Rattle.std.proofs.MapsCrossing as maps
use Rattle.std.specs.contracts.alloc.Global as heap
use Rattle.std.specs.contracts.impls.GlobalAllocator.TheImpl.{ghosts}
use Rattle.std.proofs.alloc.Global.TheSendSync as handle
use Rattle.circular_buffer.proofs.Crosses.{Cells-send, Deed-send}
use Rattle.circular_buffer.specs.contracts.ring.Ring as ring
use Rattle.circular_buffer.specs.contracts.heap.HeapCircularBuffer as buffer
use Rattle.circular_buffer.specs.contracts.heap.HeapCircularBuffer.TheInside as buffer_inside
use Rattle.ofx_types.proofs.number.Day.TheSendSync as day
use Rattle.bank_model.proofs.entry.Entry.TheSendSync as entry
use Rattle.bank_model.specs.contracts.entry.Entry as entries
use Rattle.bank_model.proofs.setup.Setup.TheSendSync as setup
use Rattle.bank_shared.below.token_window.specs.contracts.window.Window as window
use Rattle.bank_shared.below.token_window.specs.contracts.window.Window.TheInside as window_inside
use Rattle.bank_shared.below.bank_mail.proofs.mails.Mails.TheSendSync as mails
use Rattle.bank_shared.below.bank_history.specs.contracts.entry_trace.EntryTrace as past
use Rattle.bank_shared.below.bank_history.proofs.origins.Origin.TheSendSync as origin
use Rattle.bank_shared.below.bank_history.specs.contracts.object_history.ObjectHistory as of_object
use Rattle.bank_shared.below.bank_history.specs.contracts.object_history.ObjectHistory.TheInside as of_object_inside
use Rattle.bank_shared.below.bank_history.specs.contracts.objects.Objects as objects
use Rattle.bank_shared.below.bank_history.specs.contracts.objects.Objects.TheInside as objects_inside
use Rattle.bank_shared.below.bank_history.specs.contracts.laid.Laid as laid
use Rattle.bank_shared.below.bank_history.specs.contracts.laid.Laid.TheInside as laid_inside
use Rattle.bank_shared.below.bank_history.specs.contracts.history.History as history
use Rattle.bank_shared.below.bank_history.specs.contracts.history.History.TheInside as history_inside
use Rattle.bank_shared.below.bank_transfers.proofs.transfers.Transfers.TheSendSync as transfers
use Rattle.bank_shared.below.bank_recur.proofs.models.Models.TheSendSync as models
use Rattle.bank_shared.below.once_records.proofs.records.Records.TheSendSync as records
use Rattle.bank_shared.below.bank_accounts.proofs.book_sides.BookSides.TheSendSync as sides
use Rattle.bank_shared.below.bank_ledger.specs.contracts.ledger.Ledger as ledger
use Rattle.bank_shared.below.bank_ledger.specs.contracts.ledger.Ledger.TheInside as ledger_inside
use Rattle.bank_shared.below.bank_core.specs.contracts.book.Book as book
use Rattle.bank_shared.below.bank_core.specs.contracts.book.Book.TheInside as book_inside

-- a ring of entries on the heap
ring_send : IsSend (ring.the_row entries.the_row heap.the_row ghosts)
ring_send = declared_send (ring.the_type entries.the_row heap.the_row ghosts) (
  search (sendable, crosses),
  (
    search (sendable, crosses),
    (search (sendable, crosses), (search (sendable, crosses), (Cells-send _ entry.the_send, (Deed-send _ heap.the_row ghosts frees, (handle.the_send, tt))))),
  ),
)

buffer_send : IsSend (buffer.the_row entries.the_row heap.the_row ghosts)
buffer_send = view_send _ _ _ _ _ (declared_send (buffer_inside.the_type entries.the_row heap.the_row ghosts) (ring_send, tt))

window_send : IsSend window.the_row
window_send = view_send _ _ _ _ _ (declared_send window_inside.the_type (search (sendable, crosses), (search (sendable, crosses), (search (sendable, crosses), (buffer_send, tt)))))

of_object_send : IsSend of_object.the_row
of_object_send = view_send _ _ _ _ _ (declared_send of_object_inside.the_type (window_send, (search (sendable, crosses, origin.the_send), tt)))

objects_send : IsSend objects.the_row
objects_send = view_send _ _ _ _ _ (declared_send objects_inside.the_type (handle.the_send, (search (sendable, crosses), (search (sendable, crosses, maps.crosses, of_object_send) depth 20, tt))))

laid_send : IsSend laid.the_row
laid_send = view_send _ _ _ _ _ (declared_send laid_inside.the_type (objects_send, (mails.the_send, tt)))

-- all entries, of which it has no bytes
past_send : IsSend past.the_row
past_send = variants_send past.enum (tt, ((search (sendable, crosses), (search (sendable, crosses), tt)), tt))

history_send : IsSend history.the_row
history_send = view_send _ _ _ _ _ (
    declared_send history_inside.the_type (
      past_send,
      (search (sendable, crosses), (search (sendable, crosses, maps.crosses) depth 20, (laid_send, (search (sendable, crosses, entry.the_send), (search (sendable, crosses), tt))))),
    )
    )

ledger_send : IsSend ledger.the_row
ledger_send = view_send _ _ _ _ _ (declared_send ledger_inside.the_type (history_send, (transfers.the_send, (models.the_send, (records.the_send, (day.the_send, tt))))))

pub book_send : (P : RattleType) → IsSend P → IsSend (book.the_row P)
book_send P sp = view_send _ _ _ _ _ (declared_send (book_inside.the_type P) (setup.the_send, (ledger_send, (sides.the_send, (as_row_send (row_field P) sp, (search (sendable, crosses), tt))))))
