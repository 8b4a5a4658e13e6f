use Rattle.std.proofs.Common.{◌≡◌, ◌++◌, length, take}
use Rattle.std.specs.List.{flat_map}
use Rattle.record_fields.specs.FieldCoding.{u16_bytes}
use Rattle.event_codec.specs.Coding.{ask_bytes}
use Rattle.event_codec.proofs.ask.put_asks.Given as goal

abbrev pub invariant-loop-ask : goal.invariant-loop-ask
invariant-loop-ask l = record {
  bytes : l.out.items ≡ (l.fn.out.items ++ u16_bytes (length l.value)) ++ flat_map ask_bytes (take l.ask-index l.asks);
}
