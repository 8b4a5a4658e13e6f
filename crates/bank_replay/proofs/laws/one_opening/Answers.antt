use Rattle.bank_model.specs.Rules.{opening_state}
use Rattle.bank_replay.proofs.laws.one_opening.Goals as goal

pub returns : goal.returns
returns c = λ setup records state other. c.one_reopening.ensures setup opening_state records state other
