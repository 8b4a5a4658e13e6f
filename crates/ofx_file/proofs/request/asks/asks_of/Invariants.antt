use Rattle.std.proofs.Common.{◌≡◌}
use Rattle.ofx_types.specs.Nodes.{children}
use Rattle.ofx_types.specs.MessageReading.{ask_of, messages_of}
use Rattle.ofx_file.specs.MessageSets.{request_names, asks_after}
use Rattle.ofx_file.proofs.request.asks.asks_of.Given as goal

-- the asks so far and what is still to come make the asks of all
abbrev pub invariant-loop-child : goal.invariant-loop-child
invariant-loop-child l = asks_after l.set l.asks l.child-iterator ≡ messages_of ask_of (request_names l.set) (children l.found)
