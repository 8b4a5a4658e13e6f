use Rattle.std.proofs.Common.{ap, sym, subst, ◌∙◌}
use Rattle.std.specs.Option.{option_or}
use Rattle.bank_transfers.specs.TransfersView.{TransfersView, Represents, row_settled}
use Rattle.bank_transfers.proofs.transfers.Transfers.get.Goals as goal

pub returns-in-Some : goal.returns-in-Some
returns-in-Some c entries holds =
    let held = subst (λ (v : TransfersView). Represents v entries) (sym c.self.view_is) holds in
    ap (λ found. option_or found (row_settled c.self.inside.closed.rows c.self.inside.postings.postings c.args.id)) c.in-Some.ensures
    ∙ held.rows c.args.id

pub returns-in-None : goal.returns-in-None
returns-in-None c entries holds =
    let held = subst (λ (v : TransfersView). Represents v entries) (sym c.self.view_is) holds in
    c.processed_row.ensures
    ∙ ap (λ found. option_or found (row_settled c.self.inside.closed.rows c.self.inside.postings.postings c.args.id)) c.in-None.ensures
    ∙ held.rows c.args.id
