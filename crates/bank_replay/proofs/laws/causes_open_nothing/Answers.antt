use Rattle.bank_replay.proofs.Alike.{alike_legal}
use Rattle.bank_replay.proofs.OneOpening.{formless_open_nothing, illegal_open_nothing}
use Rattle.bank_replay.proofs.laws.causes_open_nothing.Goals as goal

pub returns-clause-formless : goal.returns-clause-formless
returns-clause-formless c = formless_open_nothing c.faults_code_nothing.ensures c.reopening_goes_on.ensures c.one_reopening.ensures

pub returns-clause-illegal : goal.returns-clause-illegal
returns-clause-illegal c = illegal_open_nothing (alike_legal c.one_coding.ensures) c.reopening_goes_on.ensures c.one_reopening.ensures
