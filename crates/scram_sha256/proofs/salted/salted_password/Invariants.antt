use Rattle.std.proofs.Common.{◌≡◌, ◌-◌}
use Rattle.scram_sha256.specs.Salted.{rounds_from, salted}
use Rattle.scram_sha256.proofs.salted.salted_password.Given as goal

abbrev pub invariant-loop : goal.invariant-loop
invariant-loop l = rounds_from l.password l.last l.total (l.rounds - l.counter) ≡ salted l.password l.salt l.rounds
