use Rattle.msg_statement.proofs.PrintedDocuments.{statements_printed}
use Rattle.msg_statement.proofs.Lawful.{statements_lawful}
use Rattle.msg_statement.proofs.RequestsBack.{statements_back}
use Rattle.msg_statement.proofs.Alone.{statements_alone}
use Rattle.msg_statement.proofs.laws.statements_read_back.Goals as goal

pub returns-clause-written : goal.returns-clause-written
returns-clause-written c = statements_printed

pub returns-clause-lawful : goal.returns-clause-lawful
returns-clause-lawful c = statements_lawful

pub returns-clause-read : goal.returns-clause-read
returns-clause-read c = statements_back

pub returns-clause-alone : goal.returns-clause-alone
returns-clause-alone c = statements_alone
