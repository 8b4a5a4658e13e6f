use Rattle.std.proofs.Common.{ℕ, ◌+◌, ap, sym, ◌∙◌, subst, refl, ◌∷◌, [], codes}
use Rattle.bank_invariants.specs.Next.{IsNext}
use Rattle.bank_ledger.specs.Changes.{GivesRows}
use Rattle.bank_ledger.specs.declared.row_change.RowChange.TheVariants as row_changes
use Rattle.bank_model.specs.declared.entry.Entry.{Entry}
use Rattle.bank_ledger.specs.DraftView.{drafted}
use Rattle.bank_ledger.proofs.DraftStates.{added_as}
use Rattle.bank_deeds.proofs.UnaskedAnswers.{post_few, post_there, post_own, post_held, post_from, IsPostEntry-of}
use Rattle.bank_deeds.proofs.due.post.Goals as goal

pub processed-requires-clause-there : goal.processed-requires-clause-there
processed-requires-clause-there c = post_there c.args.draft.now.setup (drafted c.args.draft.now) c.args.id c.count-number.ensures.sound c.requires.may

pub processed-requires-clause-own : goal.processed-requires-clause-own
processed-requires-clause-own c = post_own c.args.draft.now.setup (drafted c.args.draft.now) c.args.id c.count-number.ensures.sound c.requires.may

pub processed-requires-clause-held : goal.processed-requires-clause-held
processed-requires-clause-held c = post_held c.args.draft.now.setup (drafted c.args.draft.now) c.args.id c.args.draft.now.held c.count-number.ensures.sound c.requires.may c.requires.named

pub object_of-object-requires : goal.object_of-object-requires
object_of-object-requires c = post_from c.args.draft.now.setup (drafted c.args.draft.now) c.args.id c.args.draft.now.at c.in_ok-row.row c.count-number.ensures.sound c.requires.may c.in_ok-row.ensures

pub enter_processed-requires-clause-few : goal.enter_processed-requires-clause-few
enter_processed-requires-clause-few c = post_few c.args.draft.now.setup (drafted c.args.draft.now) c.args.id c.count-number.ensures.sound c.requires.may

pub enter_processed-requires-clause-next : goal.enter_processed-requires-clause-next
enter_processed-requires-clause-next c = subst (λ (e : Entry). IsNext c.args.draft.now.setup (drafted c.args.draft.now) e) (sym c.in_ok-entry.ensures) (IsPostEntry-of c.args.draft.now.setup (drafted c.args.draft.now) c.args.draft.now.at c.args.id (c.count-number.result + 1) c.object_of-object.result (codes "0") c.in_ok-row.row c.in_ok-row.row c.count-number.ensures.within c.count-number.ensures.sound c.count-number.ensures.moment c.requires.may (ap (λ (n : ℕ). n + 1) c.count-number.ensures.count) c.object_of-object.ensures refl c.in_ok-row.ensures refl).next

pub enter_processed-requires-clause-gives : goal.enter_processed-requires-clause-gives
enter_processed-requires-clause-gives c = subst (λ (e : Entry). GivesRows (drafted c.args.draft.now).entries e.change (row_changes.Row c.in_ok-row.row)) (sym c.in_ok-entry.ensures) (IsPostEntry-of c.args.draft.now.setup (drafted c.args.draft.now) c.args.draft.now.at c.args.id (c.count-number.result + 1) c.object_of-object.result (codes "0") c.in_ok-row.row c.in_ok-row.row c.count-number.ensures.within c.count-number.ensures.sound c.count-number.ensures.moment c.requires.may (ap (λ (n : ℕ). n + 1) c.count-number.ensures.count) c.object_of-object.ensures refl c.in_ok-row.ensures refl).gives

pub enter_processed-requires-clause-held : goal.enter_processed-requires-clause-held
enter_processed-requires-clause-held c = λ posted. (IsPostEntry-of c.args.draft.now.setup (drafted c.args.draft.now) c.args.draft.now.at c.args.id (c.count-number.result + 1) c.object_of-object.result (codes "0") c.in_ok-row.row c.in_ok-row.row c.count-number.ensures.within c.count-number.ensures.sound c.count-number.ensures.moment c.requires.may (ap (λ (n : ℕ). n + 1) c.count-number.ensures.count) c.object_of-object.ensures refl c.in_ok-row.ensures refl).held c.args.draft.now.held c.requires.named

pub returns : goal.returns
returns c =
    added_as c.args.draft.now c.enter_processed.new.self _ _ (ap (λ (e : Entry). e ∷ []) c.in_ok-entry.ensures ∙ (IsPostEntry-of c.args.draft.now.setup (drafted c.args.draft.now) c.args.draft.now.at c.args.id (c.count-number.result + 1) c.object_of-object.result (codes "0") c.in_ok-row.row c.in_ok-row.row c.count-number.ensures.within c.count-number.ensures.sound c.count-number.ensures.moment c.requires.may (ap (λ (n : ℕ). n + 1) c.count-number.ensures.count) c.object_of-object.ensures refl c.in_ok-row.ensures refl).entries) c.in_ok-enter_processed.ensures
