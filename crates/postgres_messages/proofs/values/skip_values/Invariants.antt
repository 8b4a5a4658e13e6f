use Rattle.std.proofs.Common.{◌≡◌, ◌-◌}
use Rattle.postgres_messages.specs.Fields.{after_values}
use Rattle.postgres_messages.proofs.values.skip_values.Given as goal

-- what is left has what follows the values
abbrev pub invariant-loop : goal.invariant-loop
invariant-loop l = after_values (l.count - l.counter) l.rest ≡ after_values l.count l.bytes
