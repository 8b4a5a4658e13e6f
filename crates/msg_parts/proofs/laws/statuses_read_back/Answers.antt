use Rattle.msg_parts.proofs.Printed.{statuses_printed}
use Rattle.msg_parts.proofs.Lawful.{statuses_lawful}
use Rattle.msg_parts.proofs.ReadBack.{statuses_back}
use Rattle.msg_parts.proofs.laws.statuses_read_back.Goals as goal

pub returns-clause-written : goal.returns-clause-written
returns-clause-written c = statuses_printed

pub returns-clause-lawful : goal.returns-clause-lawful
returns-clause-lawful c = statuses_lawful

pub returns-clause-read : goal.returns-clause-read
returns-clause-read c = statuses_back
