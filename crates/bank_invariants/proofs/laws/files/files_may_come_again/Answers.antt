use Rattle.bank_invariants.proofs.RunLaws.{again_while_kept}
use Rattle.bank_invariants.proofs.laws.files.files_may_come_again.Goals as goal

pub returns-clause-answer : goal.returns-clause-answer
returns-clause-answer c = λ setup S user at again file name run named kept. (again_while_kept setup S user at again file name run named kept).0

pub returns-clause-state : goal.returns-clause-state
returns-clause-state c = λ setup S user at again file name run named kept. (again_while_kept setup S user at again file name run named kept).1
