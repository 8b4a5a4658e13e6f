-- While a connection is awaited no call has failed yet.
use Rattle.std.proofs.Common.{◌≡◌}
use Rattle.serve_log.specs.Within.{door_faults}
use Rattle.serve_log.proofs.door.LoggedDoor.next_link.Given as goal

abbrev pub invariant-loop : goal.invariant-loop
invariant-loop g l = door_faults l.self ≡ door_faults l.fn.self
