use Rattle.ofx_header.proofs.Outcomes.{spelled_of_answer, read_of_answer, fault_of_answer, refused_of_answer}
use Rattle.ofx_header.proofs.reading.read_header.Goals as goal

pub returns-clause-spelled : goal.returns-clause-spelled
returns-clause-spelled c = spelled_of_answer c.args.bytes.now c.lines.result c.lines.ensures.found

pub returns-clause-read : goal.returns-clause-read
returns-clause-read c = read_of_answer c.args.bytes.now c.lines.result c.lines.ensures.found

pub returns-clause-fault : goal.returns-clause-fault
returns-clause-fault c = fault_of_answer c.args.bytes.now c.lines.result c.lines.ensures.found

pub returns-clause-refused : goal.returns-clause-refused
returns-clause-refused c = refused_of_answer c.args.bytes.now c.lines.result c.lines.ensures.found
