use Rattle.std.proofs.Common.{ℕ, ◌+◌, ap, sym, ◌∙◌, subst, refl, ◌∷◌, [], ◌≡◌, codes}
use Rattle.bank_invariants.specs.Next.{IsNext}
use Rattle.bank_ledger.specs.Changes.{GivesRows}
use Rattle.bank_ledger.specs.declared.row_change.RowChange.TheVariants as row_changes
use Rattle.bank_model.specs.declared.entry.Entry.{Entry}
use Rattle.bank_model.specs.Ledger.{row_in, posting_of}
use Rattle.bank_ledger.specs.DraftView.{drafted}
use Rattle.bank_ledger.proofs.DraftStates.{added_as}
use Rattle.bank_deeds.proofs.PendingAnswers.{is_there, suits_terms, terms_from, IsTermsEntry-of}
use Rattle.bank_deeds.proofs.pending.change_waiting.Goals as goal

pub row_with_terms-requires : goal.row_with_terms-requires
row_with_terms-requires c = is_there (drafted c.args.draft.now).entries c.args.id c.requires.waits

pub object_of-object-requires : goal.object_of-object-requires
object_of-object-requires c = terms_from c.args.draft.now.setup (drafted c.args.draft.now) c.args.info.now c.args.id c.in_ok-row.row c.count-number.ensures.sound c.requires.waits c.in_ok-row.ensures

pub enter-requires-clause-next : goal.enter-requires-clause-next
enter-requires-clause-next c = subst (λ (e : Entry). IsNext c.args.draft.now.setup (drafted c.args.draft.now) e) (sym c.in_ok-entry.ensures) (IsTermsEntry-of c.args.draft.now.setup (drafted c.args.draft.now) c.args.info.now c.args.id (c.count-number.result + 1) c.object_of-object.result (codes "0") c.in_ok-row.row c.in_ok-row.row c.count-number.ensures.sound c.requires.waits (suits_terms c.args.draft.now.setup (drafted c.args.draft.now) c.args.id c.args.info.now c.requires.info c.requires.terms) c.requires.terms.apart.0 (ap (λ (n : ℕ). n + 1) c.count-number.ensures.count) c.object_of-object.ensures refl c.in_ok-row.ensures refl).next

pub enter-requires-clause-gives : goal.enter-requires-clause-gives
enter-requires-clause-gives c = subst (λ (e : Entry). GivesRows (drafted c.args.draft.now).entries e.change (row_changes.Row c.in_ok-row.row)) (sym c.in_ok-entry.ensures) (IsTermsEntry-of c.args.draft.now.setup (drafted c.args.draft.now) c.args.info.now c.args.id (c.count-number.result + 1) c.object_of-object.result (codes "0") c.in_ok-row.row c.in_ok-row.row c.count-number.ensures.sound c.requires.waits (suits_terms c.args.draft.now.setup (drafted c.args.draft.now) c.args.id c.args.info.now c.requires.info c.requires.terms) c.requires.terms.apart.0 (ap (λ (n : ℕ). n + 1) c.count-number.ensures.count) c.object_of-object.ensures refl c.in_ok-row.ensures refl).gives

pub enter-requires-clause-nothing : goal.enter-requires-clause-nothing
enter-requires-clause-nothing c = subst (λ (e : Entry). posting_of e.number (row_in e.change) ≡ []) (sym c.in_ok-entry.ensures) (IsTermsEntry-of c.args.draft.now.setup (drafted c.args.draft.now) c.args.info.now c.args.id (c.count-number.result + 1) c.object_of-object.result (codes "0") c.in_ok-row.row c.in_ok-row.row c.count-number.ensures.sound c.requires.waits (suits_terms c.args.draft.now.setup (drafted c.args.draft.now) c.args.id c.args.info.now c.requires.info c.requires.terms) c.requires.terms.apart.0 (ap (λ (n : ℕ). n + 1) c.count-number.ensures.count) c.object_of-object.ensures refl c.in_ok-row.ensures refl).nothing

pub returns : goal.returns
returns c = added_as c.args.draft.now c.enter.new.self _ _ (ap (λ (e : Entry). e ∷ []) c.in_ok-entry.ensures ∙ (IsTermsEntry-of c.args.draft.now.setup (drafted c.args.draft.now) c.args.info.now c.args.id (c.count-number.result + 1) c.object_of-object.result (codes "0") c.in_ok-row.row c.in_ok-row.row c.count-number.ensures.sound c.requires.waits (suits_terms c.args.draft.now.setup (drafted c.args.draft.now) c.args.id c.args.info.now c.requires.info c.requires.terms) c.requires.terms.apart.0 (ap (λ (n : ℕ). n + 1) c.count-number.ensures.count) c.object_of-object.ensures refl c.in_ok-row.ensures refl).entries) c.in_ok-enter.ensures
