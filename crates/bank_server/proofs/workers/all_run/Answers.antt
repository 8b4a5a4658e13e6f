use denote.Exit.{Kept, if_kept, unseen}
use denote.Param.{param, copied}
use denote.Param.Send.{IsSync, sendable, Quiet, Quiet-if}
use mir.Syntax.{of_param, named}
use Rattle.std.proofs.Common.{ℕ, rules}
use Rattle.std.proofs.Crossing.{crosses}
use Rattle.bank_shared.specs.contracts.bank.Bank as bank
use Rattle.bank_server.proofs.Doors.{each_call}
use Rattle.bank_server.proofs.Sharing.{bank_sync, captured_sync}
use Rattle.bank_server.proofs.workers.all_run.Lts as lts
use Rattle.bank_server.proofs.workers.all_run.Goals as goal

-- what the closure's own types leave isn't seen
quiet : {D : Type 0} (k : Kept) (i : ℕ) → Quiet (if_kept {D = D} (k (of_param i)) unseen unseen)
quiet k i = Quiet-if (k (of_param i)) unseen unseen (λ x w. tt) (λ x w. tt)

pub map_vec-requires-sync-F : goal.map_vec-requires-sync-F
map_vec-requires-sync-F g c κs within =
    let b = c.type_bounds in
    let mark : IsSync (lts.of-0 g.row.N g.row.R g.row.K g.row.P g.row.L g.row.D g.row.C g.row.G g.N.laws g.R.laws g.K.laws g.P.laws g.L.laws g.D.laws g.C.laws g.G.laws g.P.copy g.N.BankName g.N.BankName-dict g.R.Threads g.R.Threads-dict g.R.Wait g.R.Wait-dict g.K.Keeper g.K.Keeper-dict g.P.Printer g.P.Printer-dict g.P.Clone g.P.Clone-dict g.L.Link g.L.Link-dict g.D.Doorway g.D.Doorway-dict g.C.Clock g.C.Clock-dict g.G.Gate g.G.Gate-dict g.K.Destruct-dict g.L.Destruct-dict g.D.Destruct-dict g.C.Destruct-dict) = search (sendable, crosses) in
    let shared = bank_sync (param 0 g.row.N) (param 2 g.row.K) (copied 3 g.row.P) g.N.BankName g.K.Keeper b.send-K b.send-P b.sync-P in
    let runtime : IsSync (param 1 g.row.R) = b.sync-R in
    let gate : IsSync (param 7 g.row.G) = search (b.sync-G) in
    record {
      shared = (captured_sync (record { mir = named 7; lft = κs.1.1.1.1.1.1.1.0 }) (record { mir = named 8; lft = κs.1.1.1.1.1.1.1.1.0 })
          (record { mir = named 9; lft = κs.1.1.1.1.1.1.1.1.1.0 }) (record { mir = named 10; lft = κs.1.1.1.1.1.1.1.1.1.1.0 })
          (record { mir = named 11; lft = κs.1.1.1.1.1.1.1.1.1.1.1.0 })
          (bank.the_row (param 0 g.row.N) (param 2 g.row.K) (copied 3 g.row.P) g.N.BankName g.K.Keeper) (param 1 g.row.R) (param 7 g.row.G) (lts.of-0 g.row.N g.row.R g.row.K g.row.P g.row.L g.row.D g.row.C g.row.G g.N.laws g.R.laws g.K.laws g.P.laws g.L.laws g.D.laws g.C.laws g.G.laws g.P.copy g.N.BankName g.N.BankName-dict g.R.Threads g.R.Threads-dict g.R.Wait g.R.Wait-dict g.K.Keeper g.K.Keeper-dict g.P.Printer g.P.Printer-dict g.P.Clone g.P.Clone-dict g.L.Link g.L.Link-dict g.D.Doorway g.D.Doorway-dict g.C.Clock g.C.Clock-dict g.G.Gate g.G.Gate-dict g.K.Destruct-dict g.L.Destruct-dict g.D.Destruct-dict g.C.Destruct-dict)
          shared runtime gate mark).shared;
    }

pub map_vec-requires-after_bounds : goal.map_vec-requires-after_bounds
map_vec-requires-after_bounds g c κs within = λ i x inside is.
    let b = c.type_bounds in (
      record { owned = b.send-N.owned; leaving = λ k. quiet k 0 },
      record { owned = b.send-K.owned; leaving = λ k. quiet k 2 },
      b.send-P,
      record { owned = b.send-L.owned; leaving = λ k. quiet k 4 },
      record { owned = b.send-D.owned; leaving = λ k. quiet k 5 },
      record { owned = b.send-C.owned; leaving = λ k. quiet k 6 },
      search (sendable, b.sync-N),
      search (sendable, b.sync-R),
      b.sync-P,
      search (sendable, b.sync-G),
    )

pub returns-clause-each : goal.returns-clause-each
returns-clause-each g c = λ i job worked at ended.
    let call = each_call _ _ _ _ c.in_ok-ends.ensures.each i job worked at ended in
    search (rules, call.met)
