use Rattle.std.proofs.Common.{sym, subst}
use Rattle.std.proofs.lemmas.Result.{IfOk-weaker}
use Rattle.bank_model.specs.Models.{all_waiting, waiting_of}
use Rattle.bank_transfers.specs.TransfersView.{TransfersView, Represents}
use Rattle.bank_transfers.proofs.transfers.Transfers.waiting.Goals as goal

pub returns : goal.returns
unfolding waiting_of
returns c =
    IfOk-weaker c.of_model.result _ _
    (λ ids is entries holds.
    let held = subst (λ (v : TransfersView). Represents v entries) (sym c.self.view_is) holds in
    is (all_waiting entries) (record { found = held.waiting; rise = held.rise }))
    c.of_model.ensures
