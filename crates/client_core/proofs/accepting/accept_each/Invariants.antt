use Rattle.std.proofs.Common.{◌≡◌, ◌++◌, map, take, drop}
use Rattle.client_core.specs.Accepting.{taken_by}
use Rattle.client_core.proofs.accepting.accept_each.Given as goal

abbrev pub invariant-loop-store : goal.invariant-loop-store
invariant-loop-store l = l.stores ≡ map (taken_by l.ask l.reply) (take l.store-index l.fn.stores) ++ drop l.store-index l.fn.stores
