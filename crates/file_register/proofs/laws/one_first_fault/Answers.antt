use Rattle.file_register.proofs.Loading.{one_fault, faults_save_nothing}
use Rattle.file_register.proofs.laws.one_first_fault.Goals as goal

pub returns-clause-one : goal.returns-clause-one
returns-clause-one c = one_fault

pub returns-clause-none : goal.returns-clause-none
returns-clause-none c = faults_save_nothing
