use Rattle.bank_replay.proofs.Alike.{alike_legal}
use Rattle.bank_replay.proofs.OneOpening.{one_without_form, one_not_legal, formless_or_illegal}
use Rattle.bank_replay.proofs.laws.one_cause.Goals as goal

pub returns-clause-formless : goal.returns-clause-formless
returns-clause-formless c = one_without_form c.faults_code_nothing.ensures c.one_record_fault.ensures c.reopening_goes_on.ensures c.one_reopening.ensures

pub returns-clause-illegal : goal.returns-clause-illegal
returns-clause-illegal c = one_not_legal (alike_legal c.one_coding.ensures) c.reopening_goes_on.ensures c.one_reopening.ensures

pub returns-clause-apart : goal.returns-clause-apart
returns-clause-apart c = formless_or_illegal c.faults_code_nothing.ensures (alike_legal c.one_coding.ensures) c.reopening_goes_on.ensures c.one_reopening.ensures
