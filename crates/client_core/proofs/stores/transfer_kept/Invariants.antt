use Rattle.std.proofs.Common.{◌≡◌, length}
use Rattle.client_core.specs.Wishes.{transfer_kept}
use Rattle.client_core.proofs.stores.transfer_kept.Given as goal

abbrev pub invariant-loop-left : goal.invariant-loop-left
invariant-loop-left l = transfer_kept l.id l.fn.stores ≡ transfer_kept l.id l.left

abbrev pub decreases-loop-left : goal.decreases-loop-left
decreases-loop-left l = length l.left
