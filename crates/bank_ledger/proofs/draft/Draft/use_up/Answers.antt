use Rattle.std.proofs.Common.{◌≡◌, false, sym, subst}
use Rattle.bank_model.specs.Once.{is_used}
use Rattle.bank_ledger.specs.DraftView.{DraftView, drafted}
use Rattle.bank_ledger.proofs.EnteringLemmas.{IsDraft-uid}
use Rattle.bank_ledger.proofs.draft.Draft.use_up.Goals as goal

pub invariant_of-self : goal.invariant_of-self
invariant_of-self c = rw c.in_err-use_up.ensures.err c.self.invariant

pub invariant_of-self-2 : goal.invariant_of-self-2
invariant_of-self-2 c =
    let unused = subst (λ (d : DraftView). is_used d.user c.args.trnuid (drafted d).used ≡ false) (sym c.self.view_is) c.requires in
    rw c.in_ok-use_up.ensures.ok (IsDraft-uid c.self.inside.setup.now c.self.inside.ledger.now.state c.self.inside.held.now c.self.inside.added c.args.trnuid c.self.invariant.0 unused, c.self.invariant.1)
