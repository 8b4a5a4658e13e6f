use Rattle.std.proofs.Common.{◌≡◌, ◌++◌, length, take}
use Rattle.std.specs.List.{flat_map}
use Rattle.record_fields.specs.FieldCoding.{u16_bytes}
use Rattle.event_codec.specs.Coding.{pair_bytes}
use Rattle.event_codec.proofs.sync.put_pairs.Given as goal

abbrev pub invariant-loop-pair : goal.invariant-loop-pair
invariant-loop-pair l = record {
  bytes : l.out.items ≡ (l.fn.out.items ++ u16_bytes (length l.pairs)) ++ flat_map pair_bytes (take l.pair-index l.pairs);
}
