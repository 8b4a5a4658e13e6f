use Rattle.std.proofs.Common.{◌≡◌, ◌++◌, length}
use Rattle.std.specs.List.{flat_map, AllByRecursion}
use Rattle.ofx_types.specs.SyncForm.{object_family}
use Rattle.bank_model.specs.Sound.{IsSoundPair}
use Rattle.client_run.specs.Waiting.{deed_line}
use Rattle.client_run.proofs.waiting.put_deeds.Given as goal

abbrev pub invariant-loop-left : goal.invariant-loop-left
invariant-loop-left l = record {
  sound : AllByRecursion (IsSoundPair (object_family l.fn.ask.object)) l.left;
  bytes : l.fn.out.items ++ flat_map deed_line l.fn.ask.deeds ≡ l.out.items ++ flat_map deed_line l.left;
}

abbrev pub decreases-loop-left : goal.decreases-loop-left
decreases-loop-left l = length l.left
