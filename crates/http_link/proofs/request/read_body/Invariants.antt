use Rattle.std.proofs.Common.{◌≡◌, ◌-◌, ◌≤◌, length}
use Rattle.std.specs.Io.KnownBytes.{Keeps, prepend_known}
use Rattle.http_link.specs.Incoming.{GrowsOn}
use Rattle.http_link.proofs.request.read_body.Given as goal

-- no byte is lost, and nothing was written
abbrev pub invariant-loop-incoming : goal.invariant-loop-incoming
invariant-loop-incoming g l = record {
  kept : Keeps (prepend_known l.fn.incoming (g.L.Link.left l.fn.link)) (prepend_known l.incoming (g.L.Link.left l.link));
  grown : GrowsOn l.fn.incoming l.incoming;
  reads : g.L.Link.read_faults l.fn.link ≤ g.L.Link.read_faults l.link;
  unwritten : Keeps (g.L.Link.held l.fn.link) (g.L.Link.held l.link);
  writes : g.L.Link.write_faults l.link ≡ g.L.Link.write_faults l.fn.link;
}

-- each turn brings bytes
abbrev pub decreases-loop-incoming : goal.decreases-loop-incoming
decreases-loop-incoming g l = l.size - length l.incoming
