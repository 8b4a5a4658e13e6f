use Rattle.std.proofs.Common.{ℕ, ◌+◌, ap, sym, ◌∙◌, subst, refl, ◌∷◌, []}
use Rattle.bank_invariants.specs.Next.{IsNext}
use Rattle.bank_ledger.specs.Changes.{GivesRows}
use Rattle.bank_ledger.specs.declared.row_change.RowChange.TheVariants as row_changes
use Rattle.bank_model.specs.declared.entry.Entry.{Entry}
use Rattle.bank_ledger.specs.DraftView.{drafted}
use Rattle.bank_deeds.proofs.DeedAnswers.{model_from, IsModelEntry-of}
use Rattle.bank_ledger.proofs.DraftStates.{added_as}
use Rattle.bank_deeds.proofs.models.add_model.Goals as goal

pub model_object_of-object-requires : goal.model_object_of-object-requires
model_object_of-object-requires c = model_from c.args.draft.now.setup (drafted c.args.draft.now) c.args.draft.now.user c.requires.judged.0 c.args.recur c.args.info.now c.requires.judged.1

pub enter-requires-clause-next : goal.enter-requires-clause-next
enter-requires-clause-next c = subst (λ (e : Entry). IsNext c.args.draft.now.setup (drafted c.args.draft.now) e) (sym c.in_ok-entry.ensures) (IsModelEntry-of c.args.draft.now.setup (drafted c.args.draft.now) c.args.draft.now.user c.requires.judged.0 c.args.draft.now.at c.args.trnuid.now c.args.recur c.args.info.now (c.count-number.result + 1) c.model_object_of-object.result c.args.trnuid.now c.in_ok-row.row c.in_ok-row.row c.count-number.ensures.sound c.requires.deed c.requires.judged.1 (ap (λ (n : ℕ). n + 1) c.count-number.ensures.count) c.model_object_of-object.ensures refl (rw c.day.ensures.value at c.in_ok-row.ensures) refl).next

pub enter-requires-clause-gives : goal.enter-requires-clause-gives
enter-requires-clause-gives c = subst (λ (e : Entry). GivesRows (drafted c.args.draft.now).entries e.change (row_changes.Model c.in_ok-row.row)) (sym c.in_ok-entry.ensures) (IsModelEntry-of c.args.draft.now.setup (drafted c.args.draft.now) c.args.draft.now.user c.requires.judged.0 c.args.draft.now.at c.args.trnuid.now c.args.recur c.args.info.now (c.count-number.result + 1) c.model_object_of-object.result c.args.trnuid.now c.in_ok-row.row c.in_ok-row.row c.count-number.ensures.sound c.requires.deed c.requires.judged.1 (ap (λ (n : ℕ). n + 1) c.count-number.ensures.count) c.model_object_of-object.ensures refl (rw c.day.ensures.value at c.in_ok-row.ensures) refl).gives

pub returns : goal.returns
returns c = record { added = added_as c.args.draft.now c.enter.new.self _ _ (ap (λ (e : Entry). e ∷ []) c.in_ok-entry.ensures ∙ (IsModelEntry-of c.args.draft.now.setup (drafted c.args.draft.now) c.args.draft.now.user c.requires.judged.0 c.args.draft.now.at c.args.trnuid.now c.args.recur c.args.info.now (c.count-number.result + 1) c.model_object_of-object.result c.args.trnuid.now c.in_ok-row.row c.in_ok-row.row c.count-number.ensures.sound c.requires.deed c.requires.judged.1 (ap (λ (n : ℕ). n + 1) c.count-number.ensures.count) c.model_object_of-object.ensures refl (rw c.day.ensures.value at c.in_ok-row.ensures) refl).entries) c.in_ok-enter.ensures }
