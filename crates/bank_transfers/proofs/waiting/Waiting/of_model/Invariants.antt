use Rattle.std.proofs.Common.{◌≡◌, take, map}
use Rattle.bank_transfers.specs.declared.waiting.Made.{Made}
use Rattle.bank_transfers.proofs.waiting.Waiting.of_model.Given as goal

abbrev pub invariant-loop-made : goal.invariant-loop-made
invariant-loop-made l = l.ids.items ≡ map (λ (m : Made). m.id) (take l.made-index l.made-items)
