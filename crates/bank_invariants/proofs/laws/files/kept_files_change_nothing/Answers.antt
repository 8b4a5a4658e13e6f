use Rattle.bank_invariants.proofs.RunLaws.{again_is_kept}
use Rattle.bank_invariants.proofs.laws.files.kept_files_change_nothing.Goals as goal

pub returns-clause-answer : goal.returns-clause-answer
returns-clause-answer c = λ setup S user at file reply kept. (again_is_kept setup S user at file reply kept).0

pub returns-clause-state : goal.returns-clause-state
returns-clause-state c = λ setup S user at file reply kept. (again_is_kept setup S user at file reply kept).1
