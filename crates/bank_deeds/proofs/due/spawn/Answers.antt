use Rattle.std.proofs.Common.{ℕ, ◌+◌, ap, sym, ◌∙◌, subst, refl, ◌∷◌, [], ◌≡◌, codes}
use Rattle.bank_invariants.specs.Next.{IsNext}
use Rattle.bank_ledger.specs.Changes.{GivesRows}
use Rattle.bank_ledger.specs.declared.row_change.RowChange.TheVariants as row_changes
use Rattle.bank_model.specs.declared.entry.Entry.{Entry}
use Rattle.bank_model.specs.Ledger.{row_in, posting_of}
use Rattle.bank_ledger.specs.DraftView.{drafted}
use Rattle.bank_ledger.proofs.DraftStates.{added_as}
use Rattle.bank_deeds.proofs.UnaskedAnswers.{spawn_dated, spawn_first, spawn_day, spawn_from, IsSpawnEntry-of}
use Rattle.bank_deeds.proofs.due.spawn.Goals as goal

pub spawned-requires-clause-there : goal.spawned-requires-clause-there
spawned-requires-clause-there c = spawn_dated c.args.draft.now.setup (drafted c.args.draft.now) c.args.id c.args.occurrence c.count-number.ensures.sound c.requires.may

pub spawned-requires-clause-first : goal.spawned-requires-clause-first
spawned-requires-clause-first c = spawn_first c.args.draft.now.setup (drafted c.args.draft.now) c.args.id c.args.occurrence c.count-number.ensures.sound c.requires.may

pub spawned-requires-clause-day : goal.spawned-requires-clause-day
spawned-requires-clause-day c = spawn_day c.args.draft.now.setup (drafted c.args.draft.now) c.args.id c.args.occurrence c.count-number.ensures.sound c.requires.may

pub object_of-object-requires : goal.object_of-object-requires
object_of-object-requires c = spawn_from c.args.draft.now.setup (drafted c.args.draft.now) c.args.id c.args.occurrence (c.count-number.result + 1) c.in_ok-row.row c.count-number.ensures.sound c.requires.may c.in_ok-row.ensures

pub enter-requires-clause-next : goal.enter-requires-clause-next
enter-requires-clause-next c = subst (λ (e : Entry). IsNext c.args.draft.now.setup (drafted c.args.draft.now) e) (sym c.in_ok-entry.ensures) (IsSpawnEntry-of c.args.draft.now.setup (drafted c.args.draft.now) c.args.id c.args.occurrence (c.count-number.result + 1) c.object_of-object.result (codes "0") c.in_ok-row.row c.in_ok-row.row c.count-number.ensures.sound c.requires.may (ap (λ (n : ℕ). n + 1) c.count-number.ensures.count) c.object_of-object.ensures refl c.in_ok-row.ensures refl).next

pub enter-requires-clause-gives : goal.enter-requires-clause-gives
enter-requires-clause-gives c = subst (λ (e : Entry). GivesRows (drafted c.args.draft.now).entries e.change (row_changes.Made c.in_ok-row.row)) (sym c.in_ok-entry.ensures) (IsSpawnEntry-of c.args.draft.now.setup (drafted c.args.draft.now) c.args.id c.args.occurrence (c.count-number.result + 1) c.object_of-object.result (codes "0") c.in_ok-row.row c.in_ok-row.row c.count-number.ensures.sound c.requires.may (ap (λ (n : ℕ). n + 1) c.count-number.ensures.count) c.object_of-object.ensures refl c.in_ok-row.ensures refl).gives

pub enter-requires-clause-nothing : goal.enter-requires-clause-nothing
enter-requires-clause-nothing c = subst (λ (e : Entry). posting_of e.number (row_in e.change) ≡ []) (sym c.in_ok-entry.ensures) (IsSpawnEntry-of c.args.draft.now.setup (drafted c.args.draft.now) c.args.id c.args.occurrence (c.count-number.result + 1) c.object_of-object.result (codes "0") c.in_ok-row.row c.in_ok-row.row c.count-number.ensures.sound c.requires.may (ap (λ (n : ℕ). n + 1) c.count-number.ensures.count) c.object_of-object.ensures refl c.in_ok-row.ensures refl).nothing

pub returns : goal.returns
returns c =
    added_as c.args.draft.now c.enter.new.self _ _ (ap (λ (e : Entry). e ∷ []) c.in_ok-entry.ensures ∙ (IsSpawnEntry-of c.args.draft.now.setup (drafted c.args.draft.now) c.args.id c.args.occurrence (c.count-number.result + 1) c.object_of-object.result (codes "0") c.in_ok-row.row c.in_ok-row.row c.count-number.ensures.sound c.requires.may (ap (λ (n : ℕ). n + 1) c.count-number.ensures.count) c.object_of-object.ensures refl c.in_ok-row.ensures refl).entries) c.in_ok-enter.ensures
