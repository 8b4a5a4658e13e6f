use Rattle.std.proofs.Common.{◌≡◌, map, drop}
use Rattle.bank_server.specs.AllTurns.{first_other}
use Rattle.bank_server.proofs.workers.first_status.Given as goal

-- those before have status 0
abbrev pub invariant-loop-worked : goal.invariant-loop-worked
invariant-loop-worked g l = first_other (map (λ worked. worked.end.status.0) (drop l.worked-index l.ends)) ≡ first_other (map (λ worked. worked.end.status.0) l.ends)
