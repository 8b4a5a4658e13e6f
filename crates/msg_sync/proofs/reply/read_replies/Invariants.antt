use Rattle.std.proofs.Common.{◌≡◌}
use Rattle.ofx_types.specs.Nodes.{children}
use Rattle.ofx_types.specs.SyncReading.{replies_of}
use Rattle.msg_sync.specs.SyncSteps.{replies_after}
use Rattle.msg_sync.proofs.reply.read_replies.Given as goal

-- the answers so far and what is still to come make the answers of all
abbrev pub invariant-loop-child : goal.invariant-loop-child
invariant-loop-child l = replies_after l.name l.replies l.child-iterator ≡ replies_of l.name (children l.sync)
