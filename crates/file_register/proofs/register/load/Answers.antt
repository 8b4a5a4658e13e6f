use Rattle.std.proofs.Common.{arith}
use Rattle.file_register.proofs.TextLaws.{read_was_saved}
use Rattle.file_register.proofs.register.load.Goals as goal

pub invariant_of-result : goal.invariant_of-result
invariant_of-result c =
    rw c.into_vec.ensures (read_was_saved c.args.bytes.now c.in_ok-lines.lines (λ i. omega (arith, c.type_inv.bytes i)) c.in_ok-lines.ensures).is_register
