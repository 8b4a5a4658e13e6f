use Rattle.ofx_file.proofs.Files.{one_file}
use Rattle.ofx_file.proofs.laws.one_file.Goals as goal

pub returns : goal.returns
returns c = one_file (record {
  headers = c.one_header.ensures;
  header_faults = c.spelled_is_faultless.ensures;
  tags = c.tags_are_unambiguous.ensures;
  tag_faults = c.spelled_tags_have_no_fault.ensures;
}) c.requests_are_found.ensures
