use Rattle.bank_invariants.proofs.PendingLemmas.{waiting_rise, waiting_of_rise}
use Rattle.bank_invariants.proofs.RisingLemmas.{rows_increase}
use Rattle.bank_invariants.proofs.StateLemmas.{extends_to}
use Rattle.bank_invariants.proofs.RunLaws.{IsSoundState-run}
use Rattle.bank_invariants.proofs.laws.states.waiting_ids_rise.Goals as goal

pub returns-clause-run : goal.returns-clause-run
returns-clause-run c = λ setup run within legal. rows_increase _ (waiting_rise _ (IsSoundState-run setup run within legal).lawful)

pub returns-clause-through : goal.returns-clause-through
returns-clause-through c = λ setup S T within sound leads. rows_increase _ (waiting_rise T.entries (extends_to setup S T within sound leads).sound.lawful)

pub returns-clause-pending : goal.returns-clause-pending
returns-clause-pending c = λ setup S T id within sound leads. rows_increase _ (waiting_of_rise id T.entries (extends_to setup S T within sound leads).sound.lawful)
