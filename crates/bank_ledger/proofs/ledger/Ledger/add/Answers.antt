use Rattle.std.proofs.Common.{refl, sym, subst}
use Rattle.bank_recur.proofs.RepresentsLemmas.{holds_kept}
use Rattle.bank_ledger.specs.Changes.{GivesRows, IsKnown}
use Rattle.bank_ledger.specs.LedgerView.{LedgerView}
use Rattle.bank_ledger.proofs.WritingLemmas.{still_given, still_dropped, still_mail, made_there, made_below}
use Rattle.bank_ledger.proofs.GivenLemmas.{mail_leaves}
use Rattle.bank_ledger.proofs.ledger.Ledger.add.Goals as goal

-- ---- a row of a transfer

pub put-requires-clause-amount : goal.put-requires-clause-amount
put-requires-clause-amount c = subst IsKnown c.in-Row.is c.requires.known

pub invariant_of-self : goal.invariant_of-self
invariant_of-self c =
    let before = subst (λ (v : LedgerView). GivesRows v.state.entries c.args.entry.change c.args.row_change) (sym c.self.view_is) c.requires.gives in
    let gives = subst (GivesRows c.self.inside.history.entries c.args.entry.change) c.in-Row.is before in
    rw c.add.ensures.entries
    (c.put.ensures.holds c.self.inside.history.entries c.args.entry c.self.invariant.0 refl gives.0, holds_kept c.self.inside.models c.self.inside.history.entries c.args.entry c.self.invariant.1 gives.1)

-- ---- a transfer that a recurring transfer made

pub put-requires-in-Made-clause-amount : goal.put-requires-in-Made-clause-amount
put-requires-in-Made-clause-amount c = subst IsKnown c.in-Made.is c.requires.known

pub spawned-requires-clause-there : goal.spawned-requires-clause-there
spawned-requires-clause-there c =
    let before = subst (λ (v : LedgerView). GivesRows v.state.entries c.args.entry.change c.args.row_change) (sym c.self.view_is) c.requires.gives in
    let gives = subst (GivesRows c.self.inside.history.entries c.args.entry.change) c.in-Made.is before in
    made_there c.self.inside.models c.self.inside.history.entries c.args.entry.change c.in-Made.row.model c.self.invariant.1 gives.1

pub spawned-requires-clause-below : goal.spawned-requires-clause-below
spawned-requires-clause-below c =
    let before = subst (λ (v : LedgerView). GivesRows v.state.entries c.args.entry.change c.args.row_change) (sym c.self.view_is) c.requires.gives in
    let gives = subst (GivesRows c.self.inside.history.entries c.args.entry.change) c.in-Made.is before in
    made_below c.self.inside.models c.self.inside.history.entries c.args.entry.change c.in-Made.row.model c.self.invariant.1 gives.1 gives.2

pub invariant_of-self-in-Made : goal.invariant_of-self-in-Made
invariant_of-self-in-Made c =
    let before = subst (λ (v : LedgerView). GivesRows v.state.entries c.args.entry.change c.args.row_change) (sym c.self.view_is) c.requires.gives in
    let gives = subst (GivesRows c.self.inside.history.entries c.args.entry.change) c.in-Made.is before in
    rw c.add-in-Made.ensures.entries
    (c.put-in-Made.ensures.holds c.self.inside.history.entries c.args.entry c.self.invariant.0 refl gives.0, c.spawned.ensures.holds c.self.inside.history.entries c.args.entry c.self.invariant.1 gives.1)

-- ---- a row of a recurring transfer

pub put-requires-in-Model-clause-first : goal.put-requires-in-Model-clause-first
put-requires-in-Model-clause-first c = subst IsKnown c.in-Model.is c.requires.known

pub invariant_of-self-in-Model : goal.invariant_of-self-in-Model
invariant_of-self-in-Model c =
    let before = subst (λ (v : LedgerView). GivesRows v.state.entries c.args.entry.change c.args.row_change) (sym c.self.view_is) c.requires.gives in
    let gives = subst (GivesRows c.self.inside.history.entries c.args.entry.change) c.in-Model.is before in
    rw c.add-in-Model.ensures.entries
    (still_given c.self.inside.transfers c.self.inside.history.entries c.args.entry c.in-Model.row c.self.invariant.0 gives, c.put-in-Model.ensures.holds c.self.inside.history.entries c.args.entry c.self.invariant.1 gives)

-- ---- the end of a recurring transfer

pub invariant_of-self-in-NoModel : goal.invariant_of-self-in-NoModel
invariant_of-self-in-NoModel c =
    let before = subst (λ (v : LedgerView). GivesRows v.state.entries c.args.entry.change c.args.row_change) (sym c.self.view_is) c.requires.gives in
    let gives = subst (GivesRows c.self.inside.history.entries c.args.entry.change) c.in-NoModel.is before in
    rw c.add-in-NoModel.ensures.entries
    (still_dropped c.self.inside.transfers c.self.inside.history.entries c.args.entry c.in-NoModel.id c.self.invariant.0 gives, c.cancel.ensures.holds c.self.inside.history.entries c.args.entry c.self.invariant.1 gives)

-- ---- a mail

pub invariant_of-self-in-Mail : goal.invariant_of-self-in-Mail
invariant_of-self-in-Mail c =
    let before = subst (λ (v : LedgerView). GivesRows v.state.entries c.args.entry.change c.args.row_change) (sym c.self.view_is) c.requires.gives in
    let gives = subst (GivesRows c.self.inside.history.entries c.args.entry.change) c.in-Mail.is before in
    rw c.add-in-Mail.ensures.entries
    (still_mail c.self.inside.transfers c.self.inside.history.entries c.args.entry c.self.invariant.0 gives, holds_kept c.self.inside.models c.self.inside.history.entries c.args.entry c.self.invariant.1 (mail_leaves c.self.inside.history.entries c.args.entry.change gives))
