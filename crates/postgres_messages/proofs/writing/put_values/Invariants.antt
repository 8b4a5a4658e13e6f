use Rattle.std.proofs.Common.{◌≡◌, ◌++◌, true, take, map}
use Rattle.std.specs.List.{flat_map, list_all}
use Rattle.postgres_messages.specs.Requests.{sized_bytes, is_sized}
use Rattle.postgres_messages.proofs.writing.put_values.Given as goal

-- the values so far are appended, and each has room
pub record SoFar (bytes sizes : Type 0) : Type 0 where
  pub written : bytes
  pub sized : sizes

abbrev pub invariant-loop-value : goal.invariant-loop-value
invariant-loop-value l = SoFar
    (l.out.items ≡ l.fn.out.items ++ flat_map sized_bytes (take l.value-index (map (λ v. v.now) l.values)))
    (list_all is_sized (take l.value-index (map (λ v. v.now) l.values)) ≡ true)
