use Rattle.std.proofs.Common.{◌≡◌, ◌-◌, ◌≤◌, length}
use Rattle.std.specs.Io.KnownBytes.{Keeps, prepend_known}
use Rattle.http_link.proofs.response.reply_head.Given as goal

-- no byte is lost, and nothing was written
abbrev pub invariant-loop-head : goal.invariant-loop-head
invariant-loop-head g l = record {
  kept : Keeps (prepend_known l.fn.incoming (g.L.Link.left l.fn.link)) (prepend_known l.incoming (g.L.Link.left l.link));
  reads : g.L.Link.read_faults l.fn.link ≤ g.L.Link.read_faults l.link;
  unwritten : Keeps (g.L.Link.held l.fn.link) (g.L.Link.held l.link);
  writes : g.L.Link.write_faults l.link ≡ g.L.Link.write_faults l.fn.link;
}

-- each turn brings bytes
abbrev pub decreases-loop-head : goal.decreases-loop-head
decreases-loop-head g l = 8192 - length l.incoming
