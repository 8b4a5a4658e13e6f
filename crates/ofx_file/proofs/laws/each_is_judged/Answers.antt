use Rattle.ofx_file.proofs.Files.{each_is_judged}
use Rattle.ofx_file.proofs.laws.each_is_judged.Goals as goal

pub returns : goal.returns
returns c = each_is_judged (record {
  headers = c.faultless_is_spelled.ensures;
  tags = c.faultless_tags_are_spelled.ensures;
  slices = c.nodes_are_slices.ensures;
}) c.requests_are_found.ensures c.request_faults_have_offsets.ensures
