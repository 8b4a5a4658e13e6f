use Rattle.std.proofs.Common.{arith}
use Rattle.std.proofs.lemmas.Grind.{common_steps}
use Rattle.client_core.proofs.Opened.{kept_with}
use Rattle.client_core.proofs.stores.open_each.Goals as goal

pub loop-left-preserved : goal.loop-left-preserved
loop-left-preserved c = record {
  same = grind (arith, common_steps);
  kept = kept_with _ _ _ _ c.loop-left.invariant.kept c.in_ok-open_store.ensures.ok;
}
