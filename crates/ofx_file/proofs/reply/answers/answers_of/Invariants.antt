use Rattle.std.proofs.Common.{◌≡◌}
use Rattle.ofx_types.specs.Nodes.{children}
use Rattle.ofx_types.specs.MessageReading.{ask_reply_of, messages_of}
use Rattle.ofx_file.specs.MessageSets.{reply_names, answers_after}
use Rattle.ofx_file.proofs.reply.answers.answers_of.Given as goal

-- the answers so far and what is still to come make the answers of all
abbrev pub invariant-loop-child : goal.invariant-loop-child
invariant-loop-child l = answers_after l.set l.answers l.child-iterator ≡ messages_of ask_reply_of (reply_names l.set) (children l.found)
