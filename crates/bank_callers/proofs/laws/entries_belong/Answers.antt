use Rattle.bank_model.specs.Rules.{opening_state}
use Rattle.bank_callers.proofs.Belonging.{belong-step, belong-run, belong-log}
use Rattle.bank_callers.proofs.laws.entries_belong.Goals as goal

pub returns-clause-steps : goal.returns-clause-steps
returns-clause-steps c = belong-step

pub returns-clause-runs : goal.returns-clause-runs
returns-clause-runs c = λ setup run within legal. belong-run setup opening_state run within tt legal

pub returns-clause-logs : goal.returns-clause-logs
returns-clause-logs c = belong-log
