use Rattle.std.proofs.Common.{None, refl, ap}
use Rattle.std.specs.Option.{option_or}
use Rattle.bank_model.specs.Ledger.{row_of, last_row, moved}
use Rattle.bank_model.specs.Models.{all_waiting}
use Rattle.bank_transfers.specs.PostingsView.{IsPosted}
use Rattle.bank_transfers.specs.TransfersView.{waits}
use Rattle.std.proofs.lemmas.List.Elements.{All-nil}
use Rattle.bank_transfers.proofs.transfers.Transfers.new.Goals as goal

pub returns : goal.returns
unfolding row_of last_row moved all_waiting
returns c = rw c.new-3.ensures (record {
  rows = λ id. (λ i. option_or (c.new.ensures id i) (option_or (c.new-2.ensures id i) None));
  waiting = c.new.ensures;
  rise = tt;
  postings = refl;
})

pub invariant_of-result : goal.invariant_of-result
invariant_of-result c = rw c.new-3.ensures (All-nil IsPosted, λ id. ap waits (c.new-2.ensures id))
