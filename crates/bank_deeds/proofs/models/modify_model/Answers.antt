use Rattle.std.proofs.Common.{◌∷◌, List, sym, ap, ◌∙◌, subst, arith}
use Rattle.bank_model.specs.declared.entry.Entry.{Entry}
use Rattle.bank_ledger.specs.DraftView.{drafted, HasAdded}
use Rattle.bank_invariants.proofs.DeedLemmas.{to_change, set_entry}
use Rattle.bank_invariants.proofs.DoneLemmas.{with_new_terms, set_model_entries}
use Rattle.bank_deeds.proofs.ModelAnswers.{own_set}
use Rattle.bank_ledger.proofs.DraftStates.{added_trans}
use Rattle.bank_deeds.proofs.PendingSteps.{after_same}
use Rattle.bank_deeds.proofs.AlongAnswers.{between, terms_between}
use Rattle.bank_deeds.proofs.models.modify_model.Goals as goal

pub change_pending-requires-clause-few : goal.change_pending-requires-clause-few
change_pending-requires-clause-few c =
    let to = to_change c.args.draft.now.setup (drafted c.args.draft.now) c.args.draft.now.user c.requires.judged.0 c.args.asked.0 c.args.asked.1 c.args.info.now c.args.asked.2 c.requires.judged.1 in
    let own = own_set c.args.draft.now.setup (drafted c.args.draft.now) c.args.trnuid.now c.args.asked.0 c.args.asked.1 c.args.info.now c.args.asked.2 to.row to.found in
    let has = subst (HasAdded c.args.draft.now c.change_model.new.draft) own c.in_ok-change_model.ensures.added in
    let mid = between c.args.draft.now.setup c.args.draft.now c.change_model.new.draft (set_entry c.args.draft.now.setup (drafted c.args.draft.now) c.args.trnuid.now c.args.asked.1 c.args.info.now c.args.asked.2 to.row) (with_new_terms c.args.info.now) c.args.asked.2 c.args.asked.0 c.args.pending.now c.in_ok-change_model.ensures.sound tt c.requires.pending has in
    let size = mid.size in
    let few = c.requires.few in
    rw has.same.setup (omega arith)

pub change_pending-requires-clause-waiting : goal.change_pending-requires-clause-waiting
change_pending-requires-clause-waiting c =
    let to = to_change c.args.draft.now.setup (drafted c.args.draft.now) c.args.draft.now.user c.requires.judged.0 c.args.asked.0 c.args.asked.1 c.args.info.now c.args.asked.2 c.requires.judged.1 in
    let own = own_set c.args.draft.now.setup (drafted c.args.draft.now) c.args.trnuid.now c.args.asked.0 c.args.asked.1 c.args.info.now c.args.asked.2 to.row to.found in
    let has = subst (HasAdded c.args.draft.now c.change_model.new.draft) own c.in_ok-change_model.ensures.added in
    let mid = between c.args.draft.now.setup c.args.draft.now c.change_model.new.draft (set_entry c.args.draft.now.setup (drafted c.args.draft.now) c.args.trnuid.now c.args.asked.1 c.args.info.now c.args.asked.2 to.row) (with_new_terms c.args.info.now) c.args.asked.2 c.args.asked.0 c.args.pending.now c.in_ok-change_model.ensures.sound tt c.requires.pending has in
    mid.waiting

pub change_pending-requires-clause-terms : goal.change_pending-requires-clause-terms
change_pending-requires-clause-terms c =
    let to = to_change c.args.draft.now.setup (drafted c.args.draft.now) c.args.draft.now.user c.requires.judged.0 c.args.asked.0 c.args.asked.1 c.args.info.now c.args.asked.2 c.requires.judged.1 in
    let own = own_set c.args.draft.now.setup (drafted c.args.draft.now) c.args.trnuid.now c.args.asked.0 c.args.asked.1 c.args.info.now c.args.asked.2 to.row to.found in
    let has = subst (HasAdded c.args.draft.now c.change_model.new.draft) own c.in_ok-change_model.ensures.added in
    rw has.same.setup (terms_between c.args.draft.now.setup c.args.draft.now c.change_model.new.draft (set_entry c.args.draft.now.setup (drafted c.args.draft.now) c.args.trnuid.now c.args.asked.1 c.args.info.now c.args.asked.2 to.row) c.args.asked.2 c.args.asked.0 c.args.pending.now c.args.info.now c.in_ok-change_model.ensures.sound tt c.requires.pending has to)

pub returns : goal.returns
returns c =
    let to = to_change c.args.draft.now.setup (drafted c.args.draft.now) c.args.draft.now.user c.requires.judged.0 c.args.asked.0 c.args.asked.1 c.args.info.now c.args.asked.2 c.requires.judged.1 in
    let own = own_set c.args.draft.now.setup (drafted c.args.draft.now) c.args.trnuid.now c.args.asked.0 c.args.asked.1 c.args.info.now c.args.asked.2 to.row to.found in
    let has = subst (HasAdded c.args.draft.now c.change_model.new.draft) own c.in_ok-change_model.ensures.added in
    let mid = between c.args.draft.now.setup c.args.draft.now c.change_model.new.draft (set_entry c.args.draft.now.setup (drafted c.args.draft.now) c.args.trnuid.now c.args.asked.1 c.args.info.now c.args.asked.2 to.row) (with_new_terms c.args.info.now) c.args.asked.2 c.args.asked.0 c.args.pending.now c.in_ok-change_model.ensures.sound tt c.requires.pending has in
    record {
      added = subst (HasAdded c.args.draft.now c.change_pending.new.draft) (ap (λ (l : List Entry). (set_entry c.args.draft.now.setup (drafted c.args.draft.now) c.args.trnuid.now c.args.asked.1 c.args.info.now c.args.asked.2 to.row) ∷ l) mid.rest ∙ sym (set_model_entries c.args.draft.now.setup (drafted c.args.draft.now) c.args.draft.now.user c.args.draft.now.at c.args.trnuid.now c.args.asked.0 c.args.asked.1 c.args.info.now c.args.asked.2 to.row to.found))
          (added_trans c.args.draft.now c.change_model.new.draft c.change_pending.new.draft _ _ has (after_same c.args.draft.now.setup c.change_model.new.draft c.change_pending.new.draft (with_new_terms c.args.info.now) _ _ has.same.setup c.in_ok-change_pending.ensures));
    }
