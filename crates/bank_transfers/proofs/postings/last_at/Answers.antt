use Rattle.std.proofs.Common.{ap}
use Rattle.bank_transfers.specs.Chain.{index_or_none}
use Rattle.bank_transfers.proofs.postings.last_at.Goals as goal

pub returns-in-Some : goal.returns-in-Some
returns-in-Some c = ap index_or_none c.in-Some.ensures.value

pub returns-in-None : goal.returns-in-None
returns-in-None c = ap index_or_none c.in-None.ensures.value
