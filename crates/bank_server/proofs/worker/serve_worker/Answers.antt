use Rattle.std.proofs.Common.{arith, rules, [], ◌∷◌}
use Rattle.ofx_ports.specs.Known.{Grows}
use Rattle.bank_shared.specs.Holds.{caller_of}
use Rattle.bank_server.specs.Connected.{faces, door_view}
use Rattle.bank_server.proofs.Working.{more}
use Rattle.bank_server.proofs.worker.serve_worker.Goals as goal

pub loop-served-preserved : goal.loop-served-preserved
loop-served-preserved g c =
    let due = c.missed_due-missed.ensures.does in
    let served = c.served_link.ensures.serves in
    let opening = g.N.BankName.opening in
    let gives : Grows (g.D.Doorway.given c.loop-served.door) (g.D.Doorway.given c.accept.new.self) (c.in-Ok-Some.link ∷ []) = search (rules, c.in-Ok-Some.ensures.given) in record {
      so_far = rw due.3 (more
          (faces g.L.Link.left g.L.Link.read_faults g.L.Link.held g.L.Link.write_faults) g.N.BankName.setup
          (door_view (g.D.Doorway.given c.args.door.now) (g.D.Doorway.back c.args.door.now) (g.D.Doorway.faults c.args.door.now) (g.D.Doorway.closings c.args.door.now))
          (door_view (g.D.Doorway.given c.loop-served.door) (g.D.Doorway.back c.loop-served.door) (g.D.Doorway.faults c.loop-served.door) (g.D.Doorway.closings c.loop-served.door))
          (door_view (g.D.Doorway.given c.accept.new.self) (g.D.Doorway.back c.accept.new.self) (g.D.Doorway.faults c.accept.new.self) (g.D.Doorway.closings c.accept.new.self))
          (door_view (g.D.Doorway.given c.ended.new.self) (g.D.Doorway.back c.ended.new.self) (g.D.Doorway.faults c.ended.new.self) (g.D.Doorway.closings c.ended.new.self))
          (g.C.Clock.shown c.args.clock.now) (g.C.Clock.shown c.loop-served.clock) (g.C.Clock.shown c.missed_due-missed.new.clock) (g.C.Clock.shown c.served_link.new.clock)
          (caller_of opening c.args.pass.now) (caller_of opening c.loop-served.pass) (caller_of opening c.missed_due-missed.new.pass) (caller_of opening c.served_link.new.pass)
          c.loop-served.served c.loop-served.missed due.0 due.1 c.in-Ok-Some.link c.served_link.result served.0
          c.loop-served.invariant.so_far due.2 served.1 gives c.in-Ok-Some.ensures.back c.ended.ensures.given c.ended.ensures.back);
      pass = c.served_link.ensures.pass;
      limit = c.loop-served.invariant.limit;
      few = omega (arith, c.loop-served-test.true);
      missed = omega (arith, c.loop-served.invariant.missed, c.missed_due-missed.ensures.one);
      faults = omega (arith, c.loop-served.invariant.faults, c.in-Ok-Some.ensures.faults.later, c.ended.ensures.faults);
      closings = omega (arith, c.loop-served.invariant.closings, c.in-Ok-Some.ensures.closings.later, c.ended.ensures.closings);
    }
