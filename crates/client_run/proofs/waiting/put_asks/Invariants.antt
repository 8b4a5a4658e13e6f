use Rattle.std.proofs.Common.{◌≡◌, ◌++◌, length}
use Rattle.std.specs.List.{flat_map, AllByRecursion}
use Rattle.bank_model.specs.Sound.{IsSoundAsk}
use Rattle.client_run.specs.Waiting.{ask_lines}
use Rattle.client_run.proofs.waiting.put_asks.Given as goal

abbrev pub invariant-loop-left : goal.invariant-loop-left
invariant-loop-left l = record {
  sound : AllByRecursion IsSoundAsk l.left;
  bytes : l.fn.out.items ++ flat_map ask_lines l.fn.asks ≡ l.out.items ++ flat_map ask_lines l.left;
}

abbrev pub decreases-loop-left : goal.decreases-loop-left
decreases-loop-left l = length l.left
