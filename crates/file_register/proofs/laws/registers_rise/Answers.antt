use Rattle.file_register.proofs.RegisterLaws.{register_rising, register_same}
use Rattle.file_register.proofs.laws.registers_rise.Goals as goal

pub returns-clause-rising : goal.returns-clause-rising
returns-clause-rising c = register_rising

pub returns-clause-same : goal.returns-clause-same
returns-clause-same c = register_same
