use Rattle.ofx_file.proofs.PrintableFiles.{spelled_replies_are_printable}
use Rattle.ofx_file.proofs.laws.spelled_replies_are_printable.Goals as goal

pub returns : goal.returns
returns c = spelled_replies_are_printable
