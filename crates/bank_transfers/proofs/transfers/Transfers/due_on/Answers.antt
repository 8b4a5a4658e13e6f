use Rattle.std.proofs.Common.{sym, subst}
use Rattle.bank_model.specs.Models.{all_waiting}
use Rattle.bank_model.specs.Due.{to_post}
use Rattle.bank_transfers.specs.TransfersView.{TransfersView, Represents}
use Rattle.bank_transfers.proofs.transfers.Transfers.due_on.Goals as goal

pub returns : goal.returns
unfolding to_post
returns c entries holds =
    let held = subst (λ (v : TransfersView). Represents v entries) (sym c.self.view_is) holds in
    c.first_due.ensures (all_waiting entries) (record { found = held.waiting; rise = held.rise })
