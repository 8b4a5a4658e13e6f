use Rattle.std.proofs.Common.{◌≡◌}
use Rattle.ofx_types.specs.Nodes.{children}
use Rattle.ofx_types.specs.SyncReading.{deeds_of}
use Rattle.msg_sync.specs.SyncSteps.{deeds_after}
use Rattle.msg_sync.proofs.request.read_deeds.Given as goal

-- the deeds so far and what is still to come make the deeds of all
abbrev pub invariant-loop-child : goal.invariant-loop-child
invariant-loop-child l = deeds_after l.name l.deeds l.child-iterator ≡ deeds_of l.name (children l.sync)
