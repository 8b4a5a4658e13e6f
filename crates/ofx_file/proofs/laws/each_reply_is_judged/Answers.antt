use Rattle.ofx_file.proofs.Files.{each_reply_is_judged}
use Rattle.ofx_file.proofs.laws.each_reply_is_judged.Goals as goal

pub returns : goal.returns
returns c = each_reply_is_judged (record {
  headers = c.faultless_is_spelled.ensures;
  tags = c.faultless_tags_are_spelled.ensures;
  slices = c.nodes_are_slices.ensures;
}) c.replies_are_found.ensures c.reply_faults_have_offsets.ensures
