use Rattle.bank_invariants.proofs.RunLaws.{kept_after, names_stay_kept}
use Rattle.bank_invariants.proofs.laws.files.names_stay_kept.Goals as goal

pub returns-clause-kept : goal.returns-clause-kept
returns-clause-kept c = kept_after

pub returns-clause-stays : goal.returns-clause-stays
returns-clause-stays c = names_stay_kept
