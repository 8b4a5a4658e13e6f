use Rattle.std.proofs.Common.{sym, arith}
use Rattle.std.proofs.lemmas.List.{length-take-le, take_all}
use Rattle.bank_model.proofs.setup.reading.prefix.Goals as goal

pub slice_bounds-result-end : goal.slice_bounds-result-end
slice_bounds-result-end c = sym (length-take-le 262144 c.args.bytes.now (omega arith))

pub returns-then-bytes-gt-MAX_BYTES-clause-few : goal.returns-then-bytes-gt-MAX_BYTES-clause-few
returns-then-bytes-gt-MAX_BYTES-clause-few c = omega (arith, length-take-le 262144 c.args.bytes.now (omega arith))

pub returns-else-bytes-gt-MAX_BYTES-clause-bytes : goal.returns-else-bytes-gt-MAX_BYTES-clause-bytes
returns-else-bytes-gt-MAX_BYTES-clause-bytes c = sym (take_all 262144 c.args.bytes.now (omega arith))
