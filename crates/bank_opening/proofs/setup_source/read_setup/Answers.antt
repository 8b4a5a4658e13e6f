use Rattle.bank_opening.proofs.SetupSource.{fault_of_all}
use Rattle.bank_opening.proofs.setup_source.read_setup.Goals as goal

pub returns-in-Err-SetupLine-clause-refused : goal.returns-in-Err-SetupLine-clause-refused
returns-in-Err-SetupLine-clause-refused g c =
    let none = rw c.bytes.ensures.bytes at (rw c.in-Err-SetupLine.field-0-is at c.in-Err-SetupLine.ensures.refused) in
    let fault = rw c.bytes.ensures.bytes at (rw c.in-Err-SetupLine.field-0-is at c.in-Err-SetupLine.ensures.line) in
    fault_of_all (g.A.Source.left c.args.source.now) (g.A.Source.left c.read_whole.new.source) c.read_whole.new.ahead c.in-Err-SetupLine.line
    (rw c.in_ok-ahead.ensures at c.read_whole.ensures.kept) c.in-Ok.ensures.whole none fault
