use Rattle.bank_ledger.proofs.PostingLemmas.{HoldsPostings-none}
use Rattle.bank_ledger.proofs.additions.Additions.new.Goals as goal

pub invariant_of-result : goal.invariant_of-result
invariant_of-result c = rw c.new.ensures.items (HoldsPostings-none c.new-5.result c.new-5.ensures)
