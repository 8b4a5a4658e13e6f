use Rattle.msg_statement.proofs.PrintedDocuments.{replies_printed}
use Rattle.msg_statement.proofs.Lawful.{replies_lawful}
use Rattle.msg_statement.proofs.RepliesBack.{replies_back}
use Rattle.msg_statement.proofs.Alone.{replies_alone}
use Rattle.msg_statement.proofs.laws.statement_replies_read_back.Goals as goal

pub returns-clause-written : goal.returns-clause-written
returns-clause-written c = replies_printed

pub returns-clause-lawful : goal.returns-clause-lawful
returns-clause-lawful c = replies_lawful

pub returns-clause-read : goal.returns-clause-read
returns-clause-read c = replies_back

pub returns-clause-alone : goal.returns-clause-alone
returns-clause-alone c = replies_alone
