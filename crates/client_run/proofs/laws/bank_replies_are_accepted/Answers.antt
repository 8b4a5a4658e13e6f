use Rattle.client_run.proofs.TakenIn.{accepts_the_banks}
use Rattle.client_run.proofs.laws.bank_replies_are_accepted.Goals as goal

pub returns : goal.returns
returns c = accepts_the_banks c.exact_replies.ensures.whole c.one_reply.ensures c.faults_spell_no_reply.ensures c.bank_replies_answer.ensures.accepted
