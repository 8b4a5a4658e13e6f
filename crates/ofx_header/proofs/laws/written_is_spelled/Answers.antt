use Rattle.ofx_header.proofs.Written.{written_is_spelled}
use Rattle.ofx_header.proofs.laws.written_is_spelled.Goals as goal

pub returns : goal.returns
returns c = written_is_spelled
