use Rattle.msg_statement.proofs.StatementLaws.{statement_again, statement_found}
use Rattle.msg_statement.proofs.laws.statements_are_found.Goals as goal

pub returns : goal.returns
returns c = λ item ask. (statement_again item ask, statement_found item ask)
