use Rattle.std.proofs.Common.{◌≡◌, length}
use Rattle.ofx_tape.specs.TagReading.{IsRead}
use Rattle.ofx_tape.proofs.tape.read_nodes.Given as goal

-- the body is read up to the rest
abbrev pub invariant-loop-rest : goal.invariant-loop-rest
invariant-loop-rest l = record { read : IsRead l.reader l.rest; of_body : l.reader.body.now ≡ l.body }

abbrev pub decreases-loop-rest : goal.decreases-loop-rest
decreases-loop-rest l = length l.rest
