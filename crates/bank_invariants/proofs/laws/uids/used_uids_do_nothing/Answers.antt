use Rattle.bank_invariants.proofs.UidLaws.{used_uid-code, used_uid-state}
use Rattle.bank_invariants.proofs.laws.uids.used_uids_do_nothing.Goals as goal

pub returns-clause-code : goal.returns-clause-code
returns-clause-code c = used_uid-code

pub returns-clause-state : goal.returns-clause-state
returns-clause-state c = used_uid-state
