use Rattle.std.proofs.Common.{ℕ, ◌+◌, ap, sym, ◌∙◌, subst, refl, ◌∷◌, [], ◌≡◌}
use Rattle.bank_invariants.specs.Next.{IsNext}
use Rattle.bank_ledger.specs.Changes.{GivesRows}
use Rattle.bank_ledger.specs.declared.row_change.RowChange.TheVariants as row_changes
use Rattle.bank_model.specs.declared.entry.Entry.{Entry}
use Rattle.bank_model.specs.Ledger.{row_in, posting_of}
use Rattle.bank_ledger.specs.DraftView.{drafted}
use Rattle.bank_deeds.proofs.DeedAnswers.{modify_there, modify_from, IsModifyEntry-of}
use Rattle.bank_ledger.proofs.DraftStates.{added_as}
use Rattle.bank_deeds.proofs.transfers.modify.Goals as goal

pub changed-requires-clause-there : goal.changed-requires-clause-there
changed-requires-clause-there c = modify_there c.args.draft.now.setup (drafted c.args.draft.now) c.args.draft.now.user c.requires.judged.0 c.args.id c.args.info.now c.requires.judged.1

pub object_of-object-requires : goal.object_of-object-requires
object_of-object-requires c =
    modify_from c.args.draft.now.setup (drafted c.args.draft.now) c.args.draft.now.user c.requires.judged.0 c.args.id c.args.info.now c.in_ok-row.row c.requires.judged.1 c.in_ok-row.ensures

pub enter-requires-clause-next : goal.enter-requires-clause-next
enter-requires-clause-next c = subst (λ (e : Entry). IsNext c.args.draft.now.setup (drafted c.args.draft.now) e) (sym c.in_ok-entry.ensures) (IsModifyEntry-of c.args.draft.now.setup (drafted c.args.draft.now) c.args.draft.now.user c.requires.judged.0 c.args.draft.now.at c.args.trnuid.now c.args.id c.args.info.now (c.count-number.result + 1) c.object_of-object.result c.args.trnuid.now c.in_ok-row.row c.in_ok-row.row c.count-number.ensures.sound c.requires.deed c.requires.judged.1 (ap (λ (n : ℕ). n + 1) c.count-number.ensures.count) c.object_of-object.ensures refl c.in_ok-row.ensures refl).next

pub enter-requires-clause-gives : goal.enter-requires-clause-gives
enter-requires-clause-gives c = subst (λ (e : Entry). GivesRows (drafted c.args.draft.now).entries e.change (row_changes.Row c.in_ok-row.row)) (sym c.in_ok-entry.ensures) (IsModifyEntry-of c.args.draft.now.setup (drafted c.args.draft.now) c.args.draft.now.user c.requires.judged.0 c.args.draft.now.at c.args.trnuid.now c.args.id c.args.info.now (c.count-number.result + 1) c.object_of-object.result c.args.trnuid.now c.in_ok-row.row c.in_ok-row.row c.count-number.ensures.sound c.requires.deed c.requires.judged.1 (ap (λ (n : ℕ). n + 1) c.count-number.ensures.count) c.object_of-object.ensures refl c.in_ok-row.ensures refl).gives

pub enter-requires-clause-nothing : goal.enter-requires-clause-nothing
enter-requires-clause-nothing c = subst (λ (e : Entry). posting_of e.number (row_in e.change) ≡ []) (sym c.in_ok-entry.ensures) (IsModifyEntry-of c.args.draft.now.setup (drafted c.args.draft.now) c.args.draft.now.user c.requires.judged.0 c.args.draft.now.at c.args.trnuid.now c.args.id c.args.info.now (c.count-number.result + 1) c.object_of-object.result c.args.trnuid.now c.in_ok-row.row c.in_ok-row.row c.count-number.ensures.sound c.requires.deed c.requires.judged.1 (ap (λ (n : ℕ). n + 1) c.count-number.ensures.count) c.object_of-object.ensures refl c.in_ok-row.ensures refl).nothing

pub returns : goal.returns
returns c = record {
  added =
      added_as c.args.draft.now c.enter.new.self _ _ (ap (λ (e : Entry). e ∷ []) c.in_ok-entry.ensures ∙ (IsModifyEntry-of c.args.draft.now.setup (drafted c.args.draft.now) c.args.draft.now.user c.requires.judged.0 c.args.draft.now.at c.args.trnuid.now c.args.id c.args.info.now (c.count-number.result + 1) c.object_of-object.result c.args.trnuid.now c.in_ok-row.row c.in_ok-row.row c.count-number.ensures.sound c.requires.deed c.requires.judged.1 (ap (λ (n : ℕ). n + 1) c.count-number.ensures.count) c.object_of-object.ensures refl c.in_ok-row.ensures refl).entries) c.in_ok-enter.ensures;
}
