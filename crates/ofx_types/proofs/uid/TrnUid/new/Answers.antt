use Rattle.ofx_types.proofs.Trimming.{trnuid_of_faultless}
use Rattle.ofx_types.proofs.uid.TrnUid.new.Goals as goal

pub invariant_of-result : goal.invariant_of-result
invariant_of-result c =
    trnuid_of_faultless c.args.bytes.now c.trim-text.result.now c.inline.result c.inline.ensures c.trim-text.ensures c.in-None.ensures
