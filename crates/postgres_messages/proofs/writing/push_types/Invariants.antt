use Rattle.std.proofs.Common.{◌≡◌, ◌++◌, take}
use Rattle.std.specs.List.{flat_map}
use Rattle.postgres_messages.specs.Fields.{u32_bytes}
use Rattle.postgres_messages.proofs.writing.push_types.Given as goal

-- the types so far are appended
abbrev pub invariant-loop-number : goal.invariant-loop-number
invariant-loop-number l = l.out.items ≡ l.fn.out.items ++ flat_map u32_bytes (take l.number-index l.types)
