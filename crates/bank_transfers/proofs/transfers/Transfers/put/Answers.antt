use Rattle.std.proofs.Common.{◌++◌, Some, refl, sym, subst, ◌∙◌, ap}
use Rattle.bank_model.specs.Ledger.{posting_of}
use Rattle.bank_transfers.specs.TransfersView.{TransfersView, Represents}
use Rattle.bank_transfers.proofs.RepresentsLemmas.{holds_waiting, holds_settled}
use Rattle.bank_transfers.proofs.HeldLemmas.{settled_waits}
use Rattle.bank_transfers.proofs.transfers.Transfers.put.Goals as goal

pub returns-then-is_waiting-clause-holds : goal.returns-then-is_waiting-clause-holds
returns-then-is_waiting-clause-holds c entries entry holds numbered gives =
    holds_waiting _ _ c.args.row entries entry
    (settled_waits c.args.row.id c.self.inside.closed.rows c.self.inside.postings.postings c.self.invariant.1 c.self.invariant.0)
    (sym c.is_waiting.ensures ∙ c.if-is_waiting.true)
    c.put.ensures.found
    (λ id. refl)
    refl
    (subst (λ (v : TransfersView). Represents v entries) (sym c.self.view_is) holds)
    gives

pub returns-else-is_waiting-clause-holds : goal.returns-else-is_waiting-clause-holds
returns-else-is_waiting-clause-holds c entries entry holds numbered gives =
    holds_settled _ _ c.args.row entries entry
    (sym c.is_waiting.ensures ∙ c.if-is_waiting.false)
    c.remove_row.ensures.found
    c.process.ensures.rows
    (c.process.ensures.postings ∙ ap (λ n. c.self.inside.postings.postings ++ posting_of n (Some c.args.row)) (sym numbered))
    (subst (λ (v : TransfersView). Represents v entries) (sym c.self.view_is) holds)
    gives
