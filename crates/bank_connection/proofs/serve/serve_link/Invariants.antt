use Rattle.std.proofs.Common.{◌≡◌, ◌-◌, ◌<◌, ◌≤◌, IfSome}
use Rattle.bank_callers.specs.Callers.{IsRightView}
use Rattle.bank_connection.specs.Connection.{around}
use Rattle.bank_connection.specs.Steps.{SoFar}
use Rattle.bank_connection.proofs.serve.serve_link.Given as goal

-- so many exchanges were had, and the connection goes on
abbrev pub invariant-loop-incoming : goal.invariant-loop-incoming
invariant-loop-incoming g l = record {
  so_far : SoFar (g.O.Office.setup l.fn.office) l.served l.incoming
      (around (g.L.Link.left l.fn.link) (g.L.Link.read_faults l.fn.link) (g.L.Link.held l.fn.link) (g.L.Link.write_faults l.fn.link) (g.C.Clock.shown l.fn.clock) (g.O.Office.knows l.fn.office))
      (around (g.L.Link.left l.link) (g.L.Link.read_faults l.link) (g.L.Link.held l.link) (g.L.Link.write_faults l.link) (g.C.Clock.shown l.clock) (g.O.Office.knows l.office));
  few : l.served < 100;
  setup : g.O.Office.setup l.office ≡ g.O.Office.setup l.fn.office;
  through : g.O.Office.through l.office ≡ g.O.Office.through l.fn.office;
  ready : g.O.Office.ready l.office;
  right : IfSome (g.O.Office.knows l.office) (IsRightView (g.O.Office.setup l.fn.office));
  reads : g.L.Link.read_faults l.fn.link ≤ g.L.Link.read_faults l.link;
  writes : g.L.Link.write_faults l.fn.link ≤ g.L.Link.write_faults l.link;
}

abbrev pub decreases-loop-incoming : goal.decreases-loop-incoming
decreases-loop-incoming g l = 100 - l.served
