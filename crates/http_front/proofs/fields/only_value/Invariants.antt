use Rattle.std.proofs.Common.{◌≡◌, map, take}
use Rattle.std.specs.Prelude.{option_map}
use Rattle.std.specs.Option.{option_to_list}
use Rattle.httparse.specs.Spans.{header_bytes}
use Rattle.http_front.specs.Fields.{values_of}
use Rattle.http_front.proofs.fields.only_value.Given as goal

-- the values so far are at most the one that was found
abbrev pub invariant-loop-field : goal.invariant-loop-field
invariant-loop-field l = values_of l.name (map (header_bytes l.buf) (take l.field-index l.fields)) ≡ option_to_list (option_map (λ value. value.now) l.found)
