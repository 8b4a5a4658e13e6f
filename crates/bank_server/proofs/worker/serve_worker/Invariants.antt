use Rattle.std.proofs.Common.{◌≡◌, ◌≤◌, ◌-◌}
use Rattle.bank_shared.specs.Holds.{IsPassOf, caller_of}
use Rattle.bank_server.specs.Connected.{faces, door_view}
use Rattle.bank_server.specs.Turns.{greatest}
use Rattle.bank_server.proofs.Working.{SoFar}
use Rattle.bank_server.proofs.worker.serve_worker.Given as goal

-- so many links were served, and the worker goes on
abbrev pub invariant-loop-served : goal.invariant-loop-served
invariant-loop-served g l = record {
  so_far : SoFar (faces g.L.Link.left g.L.Link.read_faults g.L.Link.held g.L.Link.write_faults) g.N.BankName.setup
      (door_view (g.D.Doorway.given l.fn.door) (g.D.Doorway.back l.fn.door) (g.D.Doorway.faults l.fn.door) (g.D.Doorway.closings l.fn.door))
      (door_view (g.D.Doorway.given l.door) (g.D.Doorway.back l.door) (g.D.Doorway.faults l.door) (g.D.Doorway.closings l.door))
      (g.C.Clock.shown l.fn.clock) (g.C.Clock.shown l.clock) (caller_of g.N.BankName.opening l.fn.pass) (caller_of g.N.BankName.opening l.pass) l.served l.missed;
  pass : IsPassOf g.N.BankName.setup g.N.BankName.opening g.N.BankName.board l.pass;
  limit : l.limit ≡ greatest l.fn.most;
  few : l.served ≤ l.limit;
  missed : l.missed ≤ l.served;
  faults : g.D.Doorway.faults l.fn.door ≤ g.D.Doorway.faults l.door;
  closings : g.D.Doorway.closings l.fn.door ≤ g.D.Doorway.closings l.door;
}

abbrev pub decreases-loop-served : goal.decreases-loop-served
decreases-loop-served g l = l.limit - l.served
