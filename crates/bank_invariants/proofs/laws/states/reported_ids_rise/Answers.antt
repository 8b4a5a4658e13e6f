use Rattle.bank_invariants.proofs.RisingLemmas.{current_increases}
use Rattle.bank_invariants.proofs.StateLemmas.{extends_to}
use Rattle.bank_invariants.proofs.laws.states.reported_ids_rise.Goals as goal

pub returns : goal.returns
returns c = λ setup S T object within sound leads. current_increases T.entries object (extends_to setup S T within sound leads).sound.lawful
