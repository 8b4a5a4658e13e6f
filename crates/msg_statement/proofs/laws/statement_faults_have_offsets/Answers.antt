use Rattle.msg_statement.proofs.StatementOffsets.{statement_within}
use Rattle.msg_statement.proofs.laws.statement_faults_have_offsets.Goals as goal

pub returns : goal.returns
returns c = statement_within
