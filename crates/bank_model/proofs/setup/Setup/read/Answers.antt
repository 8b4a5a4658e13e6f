use Rattle.bank_model.proofs.SetupLaws.{found_back, refused_back, line_back, spelled_answers, fault_answers}
use Rattle.bank_model.proofs.setup.Setup.read.Goals as goal

pub returns-clause-found : goal.returns-clause-found
returns-clause-found c = found_back c.args.bytes.now c.whole.result c.whole.ensures

pub returns-clause-refused : goal.returns-clause-refused
returns-clause-refused c = refused_back c.args.bytes.now c.whole.result c.whole.ensures

pub returns-clause-line : goal.returns-clause-line
returns-clause-line c = line_back c.args.bytes.now c.whole.result c.whole.ensures

pub returns-clause-spelled : goal.returns-clause-spelled
returns-clause-spelled c = λ setup. spelled_answers c.args.bytes.now c.whole.result setup c.whole.ensures

pub returns-clause-at_fault : goal.returns-clause-at_fault
returns-clause-at_fault c = λ k. fault_answers c.args.bytes.now c.whole.result k c.whole.ensures
