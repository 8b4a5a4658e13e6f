use Rattle.client_run.proofs.Opened.{refuses_arguments, refuses_others, refuses_text, only_these, only_faults}
use Rattle.client_run.proofs.laws.exact_refusals.Goals as goal

pub returns-clause-arguments : goal.returns-clause-arguments
returns-clause-arguments c = refuses_arguments

pub returns-clause-others : goal.returns-clause-others
returns-clause-others c = refuses_others c.one_state.ensures c.faults_save_nothing.ensures

pub returns-clause-faults : goal.returns-clause-faults
returns-clause-faults c = refuses_text c.one_first_fault.ensures c.faults_save_nothing.ensures

pub returns-clause-only : goal.returns-clause-only
returns-clause-only c = only_these

pub returns-clause-only_faults : goal.returns-clause-only_faults
returns-clause-only_faults c = only_faults
