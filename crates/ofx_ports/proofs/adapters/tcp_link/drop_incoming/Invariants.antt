-- What may still be dropped.
use Rattle.std.proofs.Common.{◌-◌}
use Rattle.ofx_ports.proofs.adapters.tcp_link.drop_incoming.Given as goal

abbrev pub decreases-loop-dropped : goal.decreases-loop-dropped
decreases-loop-dropped g l = 1048576 - l.dropped
