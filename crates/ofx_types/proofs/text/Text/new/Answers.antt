use Rattle.std.proofs.Common.{arith}
use Rattle.ofx_types.proofs.Trimming.{text_of_faultless}
use Rattle.ofx_types.proofs.text.Text.new.Goals as goal

pub invariant_of-result : goal.invariant_of-result
invariant_of-result c =
    text_of_faultless c.args.most c.args.bytes.now c.trim-text.result.now _ c.in_ok-from_slice-in-None.ensures.ok c.trim-text.ensures c.in-None.ensures (omega arith)
