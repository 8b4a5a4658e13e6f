use Rattle.bank_session.proofs.LineLemmas.{same_offset, unanswered, undenied}
use Rattle.bank_session.proofs.laws.one_refusal.Goals as goal

pub returns-clause-offset : goal.returns-clause-offset
returns-clause-offset c = same_offset c.one_fault.ensures

pub returns-clause-unanswered : goal.returns-clause-unanswered
returns-clause-unanswered c = unanswered c.faults_spell_nothing.ensures

pub returns-clause-undenied : goal.returns-clause-undenied
returns-clause-undenied c = undenied c.faults_spell_nothing.ensures
