use Rattle.std.proofs.Common.{◌≡◌, ◌-◌, length}
use Rattle.postgres_messages.specs.Fields.{after_texts}
use Rattle.postgres_messages.proofs.texts.skip_texts.Given as goal

-- what is left has what follows the list
abbrev pub invariant-loop : goal.invariant-loop
invariant-loop l = after_texts (length l.bytes - l.counter) l.rest ≡ after_texts (length l.bytes) l.bytes
