use Rattle.std.proofs.Common.{◌≡◌, ◌+◌, length}
use Rattle.client_core.specs.Answering.{unanswered_from}
use Rattle.client_core.proofs.answering.first_unanswered.Given as goal

-- what is left, numbered from its place on, is answered as all is
abbrev pub invariant-loop-left : goal.invariant-loop-left
invariant-loop-left l = record {
  same : unanswered_from 1 l.fn.asks l.fn.replies ≡ unanswered_from (l.index + 1) l.left l.reported;
  passed : l.index + length l.left ≡ length l.fn.asks;
}

abbrev pub decreases-loop-left : goal.decreases-loop-left
decreases-loop-left l = length l.left
