use Rattle.std.proofs.Common.{◌+◌, ◌≤◌, length, ap, sym, ◌∙◌, subst, ℤ, ◌+ℤ◌, ◌-ℤ◌, ◌≤ℤ◌, pos}
use Rattle.bank_model.specs.SetupForm.{IsWithinLimits}
use Rattle.bank_model.specs.SetupLookups.{account_of}
use Rattle.bank_model.specs.Ledger.{balance}
use Rattle.bank_invariants.specs.SoundStates.{IsSoundState}
use Rattle.bank_invariants.specs.Next.{IsNext}
use Rattle.bank_ledger.specs.declared.row_change.RowChange.TheVariants.{Row}
use Rattle.bank_ledger.specs.Changes.{GivesRows}
use Rattle.bank_ledger.specs.DraftView.{DraftView, drafted}
use Rattle.bank_ledger.proofs.EnteringLemmas.{IsPayable-next, IsDraft-posted}
use Rattle.bank_ledger.proofs.draft.Draft.enter_posted.Goals as goal

pub less_by-less-requires-clause-covered : goal.less_by-less-requires-clause-covered
less_by-less-requires-clause-covered c =
    let within = subst (λ (d : DraftView). IsWithinLimits d.setup) c.self.view_is c.self.invariant.0.within in
    let sound = subst (λ (d : DraftView). IsSoundState d.setup (drafted d)) c.self.view_is c.self.invariant.0.sound in
    let payable = IsPayable-next c.args.self.now.setup (drafted c.args.self.now) c.args.entry c.args.row c.account_named-from.result c.account_named-to.result within sound c.requires.few c.requires.next c.requires.gives c.requires.posted c.account_named-from.ensures c.account_named-to.ensures in
    subst (λ (z : ℤ). c.args.row.amount.0 ≤ℤ z) (sym c.held_balance.ensures) payable.covered

pub more_by-more-requires-clause-most : goal.more_by-more-requires-clause-most
more_by-more-requires-clause-most c =
    let within = subst (λ (d : DraftView). IsWithinLimits d.setup) c.self.view_is c.self.invariant.0.within in
    let sound = subst (λ (d : DraftView). IsSoundState d.setup (drafted d)) c.self.view_is c.self.invariant.0.sound in
    let payable = IsPayable-next c.args.self.now.setup (drafted c.args.self.now) c.args.entry c.args.row c.account_named-from.result c.account_named-to.result within sound c.requires.few c.requires.next c.requires.gives c.requires.posted c.account_named-from.ensures c.account_named-to.ensures in
    subst (λ (z : ℤ). (z +ℤ c.args.row.amount.0) ≤ℤ pos 9999999999999) (sym c.held_balance-2.ensures) payable.most

pub invariant_of-self-2 : goal.invariant_of-self-2
invariant_of-self-2 c =
    let next = subst (λ (d : DraftView). IsNext d.setup (drafted d) c.args.entry) (sym c.self.view_is) c.requires.next in
    let gives = subst (λ (d : DraftView). GivesRows (drafted d).entries c.args.entry.change (Row c.args.row)) (sym c.self.view_is) c.requires.gives in
    let few = subst (λ (d : DraftView). length (drafted d).entries + 1 ≤ d.setup.entries) (sym c.self.view_is) c.requires.few in
    rw c.in_ok-add_posted.ensures.ok (
      IsDraft-posted c.self.inside.setup.now c.self.inside.ledger.now.state c.self.inside.held.now c.self.inside.added c.args.entry c.args.row c.account_named-from.result c.account_named-to.result c.less_by-less.result c.more_by-more.result c.self.invariant.0 few next gives c.requires.posted
          (ap (λ (d : DraftView). account_of d.setup c.args.row.from) c.self.view_is ∙ c.account_named-from.ensures)
          (ap (λ (d : DraftView). account_of d.setup c.args.row.to) c.self.view_is ∙ c.account_named-to.ensures)
          (c.less_by-less.ensures ∙ ap (λ (z : ℤ). z -ℤ c.args.row.amount.0) (c.held_balance.ensures ∙ ap (λ (d : DraftView). balance d.setup (drafted d).entries c.account_named-from.result) (sym c.self.view_is)))
          (c.more_by-more.ensures ∙ ap (λ (z : ℤ). z +ℤ c.args.row.amount.0) (c.held_balance-2.ensures ∙ ap (λ (d : DraftView). balance d.setup (drafted d).entries c.account_named-to.result) (sym c.self.view_is))),
      c.self.invariant.1,
    )
