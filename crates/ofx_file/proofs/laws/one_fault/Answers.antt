use Rattle.ofx_types.specs.MessageReading.{request_of}
use Rattle.ofx_file.proofs.FileFaults.{one_fault}
use Rattle.ofx_file.proofs.laws.one_fault.Goals as goal

pub returns : goal.returns
returns c = one_fault (record {
  headers = c.one_header.ensures;
  header_faults = c.spelled_is_faultless.ensures;
  tags = c.tags_are_unambiguous.ensures;
  tag_faults = c.spelled_tags_have_no_fault.ensures;
}) request_of
