use Rattle.client_laws.proofs.Answered.{file_answered, reply_accepted}
use Rattle.client_laws.proofs.answering.bank_replies_answer.Goals as goal

pub returns-clause-answered : goal.returns-clause-answered
returns-clause-answered c = file_answered

pub returns-clause-accepted : goal.returns-clause-accepted
returns-clause-accepted c = reply_accepted
