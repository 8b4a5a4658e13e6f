use Rattle.ofx_file.proofs.Files.{faults_spell_no_reply}
use Rattle.ofx_file.proofs.laws.faults_spell_no_reply.Goals as goal

pub returns : goal.returns
returns c = faults_spell_no_reply (record {
  headers = c.one_header.ensures;
  header_faults = c.spelled_is_faultless.ensures;
  tags = c.tags_are_unambiguous.ensures;
  tag_faults = c.spelled_tags_have_no_fault.ensures;
}) c.replies_are_found.ensures
