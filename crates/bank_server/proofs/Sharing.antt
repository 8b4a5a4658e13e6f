-- A bank may be shared by threads: nothing behind its lock belongs to one.
use denote.RattleType.{RattleType}
use denote.Ref.{NamedLft, ShrRef}
use denote.Struct.Field.{row_field, u32-field}
use denote.Struct.Tuple.{type_at, TupleAt}
use denote.Param.Send.{IsSend, IsSync, sendable, view_send, view_sync, shr_sync}
use denote.Param.SendFields.{declared_send, declared_sync, as_row_send, as_row_sync}
use Rattle.std.proofs.Common.{List, [], ◌∷◌}
use Rattle.std.proofs.Crossing.{crosses}
use Rattle.std.specs.contracts.alloc.Global as heap
use Rattle.std.proofs.option.Option.TheSendSync as option
use Rattle.std.proofs.alloc.Global.TheSendSync as handle
use Rattle.ofx_types.proofs.number.Moment.TheSendSync as moment
use Rattle.ofx_types.proofs.uid.FileUid.TheSendSync as uid
use Rattle.bank_model.proofs.event.Event.TheSendSync as event
use Rattle.bank_model.proofs.setup.Setup.TheSendSync as setup
use Rattle.bank_shared.below.bank_accounts.proofs.row.AccountRow.TheSendSync as row
use Rattle.bank_shared.below.bank_ledger.proofs.additions.Additions.TheSendSync as additions
use Rattle.bank_shared.below.bank_core.specs.contracts.prepared.Prepared as prepared
use Rattle.bank_shared.below.bank_core.specs.contracts.prepared.Prepared.TheInside as prepared_inside
use Rattle.ofx_ports.specs.declared.keeper.Keeper as kept
use Rattle.bank_shared.specs.declared.name.BankName as named
use Rattle.bank_shared.below.bank_engine.specs.contracts.pending.Pending as pending
use Rattle.bank_shared.below.bank_engine.specs.contracts.engine.Engine as engine
use Rattle.bank_shared.below.bank_engine.specs.contracts.engine.Engine.TheInside as engine_inside
use Rattle.token_board.proofs.board.Board.TheSendSync as board
use Rattle.token_board.proofs.writer.Writer.TheSendSync as writer
use Rattle.bank_shared.specs.contracts.journal.Journal as journal
use Rattle.bank_shared.specs.contracts.journal.Journal.TheInside as journal_inside
use Rattle.bank_shared.specs.contracts.bank.Bank as bank
use Rattle.bank_shared.specs.contracts.bank.Bank.TheInside as bank_inside
use Rattle.bank_server.proofs.Books.{book_send}

prepared_send : IsSend prepared.the_row
prepared_send = view_send _ _ _ _ _ (
    declared_send prepared_inside.the_type (
      search (sendable, crosses),
      (
        search (sendable, crosses),
        (
          search (sendable, crosses),
          (additions.the_send, (option.the_send _ uid.the_send, (option.the_send _ uid.the_send, (search (sendable, crosses), (search (sendable, crosses), tt))))),
        ),
      ),
    )
    )

pending_send : IsSend pending.the_row
pending_send = declared_send pending.the_type (event.the_send, (moment.the_send, (search sendable, (prepared_send, tt))))

engine_send : (P : RattleType) → IsSend P → IsSend (engine.the_row P)
engine_send P sp = view_send _ _ _ _ _ (declared_send (engine_inside.the_type P) (book_send _ sp, (option.the_send _ pending_send, tt)))

module _ (N K P : RattleType) (n : named.Ghosts N.Denot) (k : kept.Ghosts K.Denot) where
  journal_send : IsSend K → IsSend P → IsSend (journal.the_row N K P n k)
  journal_send sk sp = view_send _ _ _ _ _ (
      declared_send (journal_inside.the_type N K P n k) (
        handle.the_send,
        (as_row_send (row_field K) sk, (engine_send _ sp, (writer.the_send, (search (sendable, crosses), tt)))),
      )
      )

  pub bank_sync : IsSend K → IsSend P → IsSync P → IsSync (bank.the_row N K P n k)
  bank_sync sk sp shared =
      let inside = journal_send sk sp in
      view_sync _ _ _ _ _ (
      declared_sync (bank_inside.the_type N K P n k) (
        handle.the_sync,
        (setup.the_sync, (as_row_sync (row_field P) shared, (board.the_sync, (row.the_sync, (search (sendable, crosses, inside), tt))))),
      )
      )

-- a reference may be shared where what it refers to may
lent_sync : (a : NamedLft) (T : RattleType) → IsSync T → IsSync (ShrRef a.mir a.lft T)
lent_sync a T s = shr_sync a.mir a.lft T s

-- what the closure of a worker captures: the bank, the runtime, the heap, the gate and a number
module _ (a b c d e : NamedLft) (B R G M : RattleType) where
  abbrev captures : List RattleType
  captures = ShrRef a.mir a.lft B ∷ ShrRef b.mir b.lft R ∷ ShrRef c.mir c.lft heap.the_row ∷ ShrRef d.mir d.lft G ∷ ShrRef e.mir e.lft u32-field.row ∷ M ∷ []

  pub captured_sync : IsSync B → IsSync R → IsSync G → IsSync M → IsSync (TupleAt [] captures)
  captured_sync sb sr sg sm = declared_sync (type_at [] captures) (
    as_row_sync (row_field (ShrRef a.mir a.lft B)) (lent_sync a B sb),
    (
      as_row_sync (row_field (ShrRef b.mir b.lft R)) (lent_sync b R sr),
      (
        as_row_sync (row_field (ShrRef c.mir c.lft heap.the_row)) (lent_sync c heap.the_row handle.the_sync),
        (
          as_row_sync (row_field (ShrRef d.mir d.lft G)) (lent_sync d G sg),
          (as_row_sync (row_field (ShrRef e.mir e.lft u32-field.row)) (lent_sync e u32-field.row (search sendable)), (as_row_sync (row_field M) sm, tt)),
        ),
      ),
    ),
  )
