use Rattle.std.proofs.Common.{◌≡◌, length}
use Rattle.client_core.specs.Answering.{have_uids}
use Rattle.client_core.proofs.answering.have_uids.Given as goal

abbrev pub invariant-loop-left : goal.invariant-loop-left
invariant-loop-left l = have_uids l.fn.deeds l.fn.replies ≡ have_uids l.left l.reported

abbrev pub decreases-loop-left : goal.decreases-loop-left
decreases-loop-left l = length l.left
