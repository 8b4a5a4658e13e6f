use Rattle.std.proofs.Common.{◌≡◌, ◌-◌, ◌≤◌, length, take}
use Rattle.std.specs.Io.KnownBytes.{Keeps, Appends}
use Rattle.http_link.proofs.reply.write_all.Given as goal

-- the bytes up to this offset are written, the count of writes' faults hasn't fallen, and nothing was read
abbrev pub invariant-loop-done : goal.invariant-loop-done
invariant-loop-done g l = record {
  within : l.done ≤ length l.bytes;
  written : Appends (g.L.Link.held l.fn.link) (g.L.Link.held l.link) (take l.done l.bytes);
  faults : g.L.Link.write_faults l.fn.link ≤ g.L.Link.write_faults l.link;
  unread : Keeps (g.L.Link.left l.fn.link) (g.L.Link.left l.link);
  reads : g.L.Link.read_faults l.link ≡ g.L.Link.read_faults l.fn.link;
}

abbrev pub decreases-loop-done : goal.decreases-loop-done
decreases-loop-done g l = length l.bytes - l.done
