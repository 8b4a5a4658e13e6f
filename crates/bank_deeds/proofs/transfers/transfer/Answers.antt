use Rattle.std.proofs.Common.{ℕ, ◌+◌, ap, sym, ◌∙◌, subst, refl, ◌∷◌, []}
use Rattle.bank_invariants.specs.Next.{IsNext}
use Rattle.bank_ledger.specs.Changes.{GivesRows}
use Rattle.bank_ledger.specs.declared.row_change.RowChange.TheVariants as row_changes
use Rattle.bank_model.specs.declared.entry.Entry.{Entry}
use Rattle.bank_ledger.specs.DraftView.{drafted}
use Rattle.bank_invariants.proofs.DeedLemmas.{transfer_from}
use Rattle.bank_deeds.proofs.DeedAnswers.{IsTransferEntry-of}
use Rattle.bank_ledger.proofs.DraftStates.{added_as}
use Rattle.bank_deeds.proofs.transfers.transfer.Goals as goal

pub object_of-object-requires : goal.object_of-object-requires
object_of-object-requires c =
    transfer_from c.args.draft.now.setup (drafted c.args.draft.now) c.args.draft.now.user c.requires.judged.0 c.args.info.now c.requires.judged.1

pub enter_processed-requires-clause-next : goal.enter_processed-requires-clause-next
enter_processed-requires-clause-next c = subst (λ (e : Entry). IsNext c.args.draft.now.setup (drafted c.args.draft.now) e) (sym c.in_ok-entry.ensures) (IsTransferEntry-of c.args.draft.now.setup (drafted c.args.draft.now) c.args.draft.now.user c.requires.judged.0 c.args.draft.now.at c.args.trnuid.now c.args.info.now (c.count-number.result + 1) c.object_of-object.result c.args.trnuid.now c.in_ok-row.row c.in_ok-row.row c.count-number.ensures.within c.count-number.ensures.sound c.count-number.ensures.moment c.requires.deed c.requires.judged.1 (ap (λ (n : ℕ). n + 1) c.count-number.ensures.count) c.object_of-object.ensures refl (rw (c.at.ensures.value, c.day.ensures.value) at c.in_ok-row.ensures) refl).next

pub enter_processed-requires-clause-gives : goal.enter_processed-requires-clause-gives
enter_processed-requires-clause-gives c = subst (λ (e : Entry). GivesRows (drafted c.args.draft.now).entries e.change (row_changes.Row c.in_ok-row.row)) (sym c.in_ok-entry.ensures) (IsTransferEntry-of c.args.draft.now.setup (drafted c.args.draft.now) c.args.draft.now.user c.requires.judged.0 c.args.draft.now.at c.args.trnuid.now c.args.info.now (c.count-number.result + 1) c.object_of-object.result c.args.trnuid.now c.in_ok-row.row c.in_ok-row.row c.count-number.ensures.within c.count-number.ensures.sound c.count-number.ensures.moment c.requires.deed c.requires.judged.1 (ap (λ (n : ℕ). n + 1) c.count-number.ensures.count) c.object_of-object.ensures refl (rw (c.at.ensures.value, c.day.ensures.value) at c.in_ok-row.ensures) refl).gives

pub enter_processed-requires-clause-held : goal.enter_processed-requires-clause-held
enter_processed-requires-clause-held c = λ posted. (IsTransferEntry-of c.args.draft.now.setup (drafted c.args.draft.now) c.args.draft.now.user c.requires.judged.0 c.args.draft.now.at c.args.trnuid.now c.args.info.now (c.count-number.result + 1) c.object_of-object.result c.args.trnuid.now c.in_ok-row.row c.in_ok-row.row c.count-number.ensures.within c.count-number.ensures.sound c.count-number.ensures.moment c.requires.deed c.requires.judged.1 (ap (λ (n : ℕ). n + 1) c.count-number.ensures.count) c.object_of-object.ensures refl (rw (c.at.ensures.value, c.day.ensures.value) at c.in_ok-row.ensures) refl).held c.args.draft.now.held c.requires.named

pub returns : goal.returns
returns c = record {
  added =
      added_as c.args.draft.now c.enter_processed.new.self _ _ (ap (λ (e : Entry). e ∷ []) c.in_ok-entry.ensures ∙ (IsTransferEntry-of c.args.draft.now.setup (drafted c.args.draft.now) c.args.draft.now.user c.requires.judged.0 c.args.draft.now.at c.args.trnuid.now c.args.info.now (c.count-number.result + 1) c.object_of-object.result c.args.trnuid.now c.in_ok-row.row c.in_ok-row.row c.count-number.ensures.within c.count-number.ensures.sound c.count-number.ensures.moment c.requires.deed c.requires.judged.1 (ap (λ (n : ℕ). n + 1) c.count-number.ensures.count) c.object_of-object.ensures refl (rw (c.at.ensures.value, c.day.ensures.value) at c.in_ok-row.ensures) refl).entries) c.in_ok-enter_processed.ensures;
}
