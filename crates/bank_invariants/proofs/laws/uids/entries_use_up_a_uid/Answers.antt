use Rattle.bank_invariants.proofs.UidLaws.{added-unused, added-used}
use Rattle.bank_invariants.proofs.laws.uids.entries_use_up_a_uid.Goals as goal

pub returns-clause-unused : goal.returns-clause-unused
returns-clause-unused c = added-unused

pub returns-clause-used : goal.returns-clause-used
returns-clause-used c = added-used
