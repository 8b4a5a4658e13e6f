use Rattle.ofx_types.proofs.Trimming.{file_uid_of_faultless}
use Rattle.ofx_types.proofs.uid.FileUid.new.Goals as goal

pub invariant_of-result : goal.invariant_of-result
invariant_of-result c =
    file_uid_of_faultless c.args.bytes.now c.trim-text.result.now c.inline.result c.inline.ensures c.trim-text.ensures c.in-None.ensures
