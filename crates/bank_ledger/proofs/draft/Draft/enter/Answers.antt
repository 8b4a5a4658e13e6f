use Rattle.std.proofs.Common.{◌+◌, ◌≤◌, length, sym, subst}
use Rattle.bank_invariants.specs.Next.{IsNext}
use Rattle.bank_ledger.specs.Changes.{GivesRows}
use Rattle.bank_ledger.specs.DraftView.{DraftView, drafted}
use Rattle.bank_ledger.proofs.EnteringLemmas.{IsKnown-next, change_posts, IsDraft-nothing}
use Rattle.bank_ledger.proofs.draft.Draft.enter.Goals as goal

pub add-requires-clause-known : goal.add-requires-clause-known
add-requires-clause-known c =
    let next = subst (λ (d : DraftView). IsNext d.setup (drafted d) c.args.entry) (sym c.self.view_is) c.requires.next in
    let gives = subst (λ (d : DraftView). GivesRows (drafted d).entries c.args.entry.change c.args.row_change) (sym c.self.view_is) c.requires.gives in
    IsKnown-next c.self.inside.setup.now _ c.args.entry c.args.row_change c.self.invariant.0.sound next gives

pub add-requires-clause-posts : goal.add-requires-clause-posts
add-requires-clause-posts c = change_posts _ c.args.entry c.args.row_change c.requires.gives

pub invariant_of-self : goal.invariant_of-self
invariant_of-self c = rw c.in_err-add.ensures.err c.self.invariant

pub invariant_of-self-2 : goal.invariant_of-self-2
invariant_of-self-2 c =
    let next = subst (λ (d : DraftView). IsNext d.setup (drafted d) c.args.entry) (sym c.self.view_is) c.requires.next in
    let gives = subst (λ (d : DraftView). GivesRows (drafted d).entries c.args.entry.change c.args.row_change) (sym c.self.view_is) c.requires.gives in
    let few = subst (λ (d : DraftView). length (drafted d).entries + 1 ≤ d.setup.entries) (sym c.self.view_is) c.requires.few in
    rw c.in_ok-add.ensures.ok
    (IsDraft-nothing c.self.inside.setup.now c.self.inside.ledger.now.state c.self.inside.held.now c.self.inside.added c.args.entry c.args.row_change c.self.invariant.0 few next gives c.requires.nothing, c.self.invariant.1)
