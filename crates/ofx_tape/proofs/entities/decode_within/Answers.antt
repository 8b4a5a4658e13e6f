use Rattle.std.proofs.Common.{◌≡◌, ℕ, ◌<◌, List, [], ◌++◌, length, take, sym, ap, ◌∙◌, arith}
use Rattle.std.proofs.lemmas.List.{append-nil, length-append, length-take}
use Rattle.ofx_types.specs.ValueForm.{decoded}
use Rattle.ofx_tape.proofs.Decoding.{decoded_none, decoded_some}
use Rattle.ofx_tape.proofs.entities.decode_within.Goals as goal

-- bytes that stand for more than fits in the room
too_many : (room rest value : List ℕ) (count : ℕ) → length room ≡ 64 → count ≡ 64 → 0 < length rest → take count room ++ decoded rest ≡ value → 64 < length value
too_many room rest value count size full some e =
    omega (arith, ap length e, length-append (take count room) (decoded rest), length-take count room, decoded_some rest some)

pub returns-then-count-eq-SHORT_VALUE-clause-long : goal.returns-then-count-eq-SHORT_VALUE-clause-long
returns-then-count-eq-SHORT_VALUE-clause-long c =
    too_many c.loop-rest.room c.loop-rest.rest.now (decoded c.args.raw.now) c.loop-rest.count c.loop-rest.invariant.2 c.if-count-eq-SHORT_VALUE.true (omega arith) c.loop-rest.invariant.0

pub returns-clause-value : goal.returns-clause-value
returns-clause-value c =
    let none : decoded c.loop-rest.rest.now ≡ [] = decoded_none c.loop-rest.rest.now (omega arith) in
    sym (append-nil _) ∙ ap (λ (t : List ℕ). take c.loop-rest.count c.loop-rest.room ++ t) (sym none) ∙ c.loop-rest.invariant.0
