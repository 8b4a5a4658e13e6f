use Rattle.bank_model.proofs.SetupLaws.{fault_once, never_both, spelled_or_fault}
use Rattle.bank_model.proofs.laws.one_fault.Goals as goal

pub returns-clause-one : goal.returns-clause-one
returns-clause-one c = fault_once

pub returns-clause-none : goal.returns-clause-none
returns-clause-none c = never_both

pub returns-clause-some : goal.returns-clause-some
returns-clause-some c = spelled_or_fault
